-- What is kept of datagrams is what their notes tell, whatever happens.
use Rattle.std.proofs.Common.{List, [], ◌∷◌, ◌++◌, sym, subst}
use Rattle.model_dgram.specs.Endpoints.{Endpoints, endpoint_at, none_opened}
use Rattle.law_datagrams.specs.Notes.{DatagramsKeep, Note, sent_on, wanted_on}
use Rattle.law_datagrams.specs.Tries.{Try, kept_after, noted, notes, now_of}
use Rattle.law_datagrams.proofs.Parts.{appended, front, no_more, within}
use Rattle.law_datagrams.proofs.Receives.{KeepsReceives}
use Rattle.law_datagrams.proofs.Receiving.{nothing_received, step_receives}
use Rattle.law_datagrams.proofs.Sending.{Keeps, nothing_so, step_sends}
use Rattle.law_datagrams.proofs.Sends.{line_of}

abbrev Both : List Note → Endpoints → Type 0
Both before kept = Keeps before kept × KeepsReceives before kept

steps_so : (before : List Note) (kept : Endpoints) → Both before kept → (all : List Try) → Both (before ++ notes all kept) (kept_after all kept)
steps_so before kept k [] = subst (λ ns. Both ns kept) (sym (no_more before)) k
steps_so before kept k (it ∷ all) =
    subst (λ ns. Both ns (kept_after all (now_of it kept))) (appended before (noted it kept) (notes all (now_of it kept)))
    (steps_so (before ++ noted it kept) (now_of it kept) (step_sends before kept k.0 it, step_receives before kept k.1 it) all)

pub datagrams_keep : (all : List Try) → DatagramsKeep (notes all none_opened) (kept_after all none_opened)
datagrams_keep all =
    let k = steps_so [] none_opened (nothing_so, nothing_received) all in
    let before = notes all none_opened in
    let kept = kept_after all none_opened in
    record {
      borne_out = k.0.borne_out;
      alike = k.0.alike;
      sends = λ id.
          within (sent_on id before) (sent_on id before ++ line_of (endpoint_at id kept)) (wanted_on id before)
          (front (sent_on id before) (line_of (endpoint_at id kept))) (k.0.sends.lines id);
      receives = k.1.receives;
    }
