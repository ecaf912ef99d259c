-- Requests one after the other.
use Rattle.std.proofs.Common.{◌≡◌, ℕ, List, [], ◌∷◌, ◌++◌, ap, sym, ◌∙◌, append_assoc, append-nil}
use Rattle.model_loop.specs.Parts.{Parts}
use Rattle.model_loop.specs.Ledger.{Origin, Booked, request_where, request_each}
use Rattle.model_loop.specs.Tasks.{future_of, lives}
use Rattle.refine_parts.specs.Requests.{each_more}

pub each_one : (by : Origin) (tasks : List ℕ) (task : ℕ) (p : Parts)
    → request_each by (tasks ++ task ∷ []) p ≡ each_more by task (request_each by tasks p)
each_one by [] task p =
    let last = request_where (lives p task) by (future_of p task) p in
    ap (λ es. record { parts = last.parts; entries = es }) (append-nil last.entries)
each_one by (first ∷ tasks) task p =
    let one = request_where (lives p first) by (future_of p first) p in
    let those = request_each by tasks one.parts in
    let last = request_where (lives those.parts task) by (future_of those.parts task) those.parts in
    ap (λ (b : Booked). record { parts = b.parts; entries = one.entries ++ b.entries }) (each_one by tasks task one.parts)
    ∙ ap (λ es. record { parts = last.parts; entries = es }) (sym (append_assoc one.entries those.entries last.entries))
