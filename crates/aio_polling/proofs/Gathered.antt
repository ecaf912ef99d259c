-- The stages of a select together are the definition's gathering.
use Rattle.std.proofs.Common.{◌≡◌, ℕ, ◌≤◌, Bool, true, false, ◌&&◌, List, [], ◌∷◌, map, sum, length, refl, sym, ap, ◌∙◌, subst, append-nil, arith}
use Rattle.std.proofs.Common.{Option, Result, Ok, Err}
use Rattle.std.specs.Prelude.{nat_le, IfOk}
use Rattle.std.specs.List.{flat_map}
use Rattle.std.proofs.lemmas.Bool.Decides.{nat_tests}
use Rattle.model_value.specs.Number.{most}
use Rattle.model_wire.specs.Call.{Item}
use Rattle.model_wire.specs.declared.call.Call.TheVariants as call
use Rattle.model_wire.specs.declared.watch.Watch.{Watch}
use Rattle.model_wire.specs.Fits.{turn_fits, are_few, are_awaited, bytes_in, most_bytes, most_items}
use Rattle.model_pump.specs.Posts.{Post}
use Rattle.model_hub.specs.declared.child.Child.{Child}
use Rattle.model_hub.specs.declared.halt.Halt.{Halt}
use Rattle.model_hub.specs.declared.halt.Halt.TheVariants.{Going, Faulted, Starving}
use Rattle.model_hub.specs.Hub.{Hub}
use Rattle.model_hub.specs.Gathering.{Gathering, add_all, begin, gather, are_taken, stdin_items}
use Rattle.model_hub.specs.Others.{Ready, PollFailed}
use Rattle.model_hub.specs.Select.{kept_at_end, starves, polled_wait, polled_watch}
use Rattle.model_hub.specs.Asked.{nones_with}
use Rattle.model_hub.specs.Told.{PollerSeen, told_with}
use Rattle.aio_hub.specs.declared.poller.Polled.{Polled as Answered}
use Rattle.aio_hub.specs.declared.poller.Polled.TheVariants as polled
use Rattle.law_hub.proofs.Fitting.{and_first, and_second}
use Rattle.aio_select.specs.Answered.{gathering, nones_after, OffersAll, AddsAll, Gathered}
use Rattle.aio_polling.specs.declared.ending.Selected.{Selected}
use Rattle.aio_polling.specs.declared.ending.Selected.TheVariants as selected
use Rattle.aio_polling.specs.Selects.{hub_of, hub_after, is_starved, selected_at, kept_at, PollAnswers, EndsSo, Gathers, Selects}
use Rattle.aio_polling.proofs.Waits.{wait_re}

nat_le_true : (m n : ℕ) → nat_le m n ≡ true → m ≤ n
nat_le_true m n h = grind (arith, nat_tests)

pub few_bytes : (watched : List Watch) (now : ℕ) (items copies : List Item) → turn_fits watched now items ≡ true → copies ≡ items
    → sum (map bytes_in copies) ≤ most_bytes
few_bytes watched now items copies fits same =
    let rest = and_second (nat_le now most) (are_few items && are_awaited watched items) fits in
    let few = and_first (are_few items) (are_awaited watched items) rest in
    subst (λ (l : List Item). sum (map bytes_in l) ≤ most_bytes) (sym same)
    (nat_le_true (sum (map bytes_in items)) most_bytes
    (and_second (nat_le (length items) most_items) (nat_le (sum (map bytes_in items)) most_bytes) few))

none_is : (found : Bool) (n : ℕ) → nones_after found n ≡ nones_with found n
none_is true n = refl
none_is false n = refl

kept_is : (items kept : List Item) (children : List Child) (taken : List Post) (count : ℕ) (halt : Halt)
    → kept_at halt items kept ≡ kept_at_end (gathering items kept children taken count halt)
kept_is items kept children taken count Going = refl
kept_is items kept children taken count Faulted = refl
kept_is items kept children taken count Starving = refl

starves_is : (halt : Halt) (now : ℕ) (items : List Item) → is_starved (selected_at halt now items) ≡ starves halt
starves_is Going now items = refl
starves_is Faulted now items = refl
starves_is Starving now items = refl

module _ (watched : List Watch) (now : ℕ) (sockets kept items kept_now items_next kept_next : List Item) (children : List Child) (taken : List Post)
    (offers : OffersAll watched sockets [] kept items kept_now)
    (adds : AddsAll watched items kept_now (flat_map (stdin_items children) watched) items_next kept_next) where
  begin_is : gathering items_next kept_next children taken 0 Going ≡ begin watched (hub_of children kept taken) sockets
  begin_is =
      adds children taken 0 Going
      ∙ ap (λ (g : Gathering). add_all watched g (flat_map (stdin_items children) watched)) (offers children taken 0 Going)

  module _ (items_end kept_end kept_said : List Item) (children_end : List Child) (taken_end : List Post) (count nones nones_end : ℕ) (halt : Halt)
      (said : Selected)
      (went : Gathered watched (gathering items_next kept_next children taken 0 Going) (gathering items_end kept_end children_end taken_end count halt)
      nones nones_end) (said_is : said ≡ selected_at halt now items_end) (keeps : kept_said ≡ kept_at halt items_end kept_end) where
    all_is : gathering items_end kept_end children_end taken_end count halt ≡ gather watched (begin watched (hub_of children kept taken) sockets) went.posts
    all_is = went.gathers ∙ ap (λ (g : Gathering). gather watched g went.posts) begin_is

    ends_so : (all : Gathering) → gathering items_end kept_end children_end taken_end count halt ≡ all
        → EndsSo now all (hub_of children kept taken) said (hub_after children_end kept_said taken_end said)
    ends_so all is =
        subst (λ (g : Gathering). EndsSo now g (hub_of children kept taken) said (hub_after children_end kept_said taken_end said)) is
        (record {
          says = said_is;
          keeps =
              ap (λ (l : List Item). hub_after children_end l taken_end said)
              (keeps ∙ kept_is items_end kept_end children_end taken_end count halt)
              ∙ ap (λ b. record {
                children = children_end;
                kept = kept_at_end (gathering items_end kept_end children_end taken_end count halt);
                free = [];
                taken = taken_end;
                starved = b;
              }) (ap is_starved said_is ∙ starves_is halt now items_end);
        })

    pub gathers_so : Gathers watched now sockets (hub_of children kept taken) nones said (hub_after children_end kept_said taken_end said) nones_end
    gathers_so =
        record {
          posts = went.posts;
          came = went.taken;
          found_none = went.found_none;
          taken =
              ap (λ (g : Gathering). are_taken watched g went.posts went.found_none) (sym begin_is) ∙ went.are_all;
          none = went.none ∙ none_is went.found_none nones;
          ends = ends_so (gather watched (begin watched (hub_of children kept taken) sockets) went.posts) all_is;
        }

-- ---- what a call gives where it is Ok
pub if_both : {T E : Type 0} (r : Result T E) (P Q S : T → Type 0) → ((x : T) → P x → Q x → S x) → IfOk r P → IfOk r Q → IfOk r S
if_both (Ok x) P Q S more p q = more x p q
if_both (Err e) P Q S more p q = tt

pub if_one : {T E : Type 0} (r : Result T E) (P S : T → Type 0) → ((x : T) → P x → S x) → IfOk r P → IfOk r S
if_one (Ok x) P S more p = more x p
if_one (Err e) P S more p = tt

pub offers_from : (watched : List Watch) (first sockets none came items kept : List Item) → first ≡ sockets → none ≡ []
    → OffersAll watched first none came items kept → OffersAll watched sockets [] came items kept
offers_from watched first sockets none came items kept same nothing offers =
    subst (λ (l : List Item). OffersAll watched sockets l came items kept) nothing
    (subst (λ (l : List Item). OffersAll watched l none came items kept) same offers)

-- ---- the poll before it
pub poll_of : (wait : Option ℕ) (watching watched : List Watch) (children : List Child) (slice kept : List Item) (poller poller_now : PollerSeen)
    (said answered : Answered) → watching ≡ watched → slice ≡ kept → said ≡ answered
    → PollAnswers wait watching children slice poller poller_now said → PollAnswers wait watched children kept poller poller_now answered
poll_of wait watching watched children slice kept poller poller_now said answered same all is polls =
    subst (PollAnswers wait watched children kept poller poller_now) is
    (subst (λ (l : List Item). PollAnswers wait watched children l poller poller_now said) all
    (subst (λ (w : List Watch). PollAnswers wait w children slice poller poller_now said) same polls))

module _ (wait : Option ℕ) (watched : List Watch) (children : List Child) (kept : List Item) (taken : List Post) (nones : ℕ)
    (poller poller_now : PollerSeen) where
  asks_so : {said : Answered} → PollAnswers wait watched children kept poller poller_now said
      → poller_now.asked
      ≡ told_with (call.Select (polled_wait watched (hub_of children kept taken) wait) (polled_watch watched) ∷ []) poller.asked
  asks_so polls =
      polls.asked
      ∙ ap (λ (w : Option ℕ). told_with (call.Select w (polled_watch watched) ∷ []) poller.asked) (wait_re watched taken children kept wait)

  pub selects_ready : (now : ℕ) (sockets : List Item) (said : Selected) (new : Hub) (nones_now : ℕ)
      → PollAnswers wait watched children kept poller poller_now (polled.Ready now sockets)
      → Gathers watched now sockets (hub_of children kept taken) nones said new nones_now
      → Selects wait watched (hub_of children kept taken) nones poller said new nones_now poller_now
  selects_ready now sockets said new nones_now polls gathers =
      record {
        polled = Ready now sockets;
        posts = gathers.posts;
        came = gathers.came;
        takes = (gathers.found_none, gathers.taken, gathers.none);
        asked = asks_so {said = polled.Ready now sockets} polls;
        answers = polls.answers;
        keeps = polls.fits;
        ends = gathers.ends;
      }

  pub selects_failed : PollAnswers wait watched children kept poller poller_now polled.Failed
      → Selects wait watched (hub_of children kept taken) nones poller selected.Unpolled (hub_after children kept taken selected.Unpolled) nones
      poller_now
  selects_failed polls =
      record {
        polled = PollFailed;
        posts = [];
        came = sym (append-nil taken);
        takes = (refl, refl);
        asked = asks_so {said = polled.Failed} polls;
        answers = polls.answers;
        keeps = polls.failed;
        ends = (refl, refl);
      }
