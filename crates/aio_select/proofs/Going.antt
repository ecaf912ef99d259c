-- How the posts of a select add up.
use Rattle.std.proofs.Common.{◌≡◌, ℕ, ◌+◌, ◌<◌, Bool, true, false, cond, ◌&&◌, not, List, [], ◌∷◌, Option, Some, None}
use Rattle.std.proofs.Common.{◌++◌, map, refl, sym, ap, ◌∙◌, append_assoc, append-nil, arith}
use Rattle.std.specs.Prelude.{nat_le}
use Rattle.std.proofs.lemmas.Bool.{false≢true}
use Rattle.std.proofs.lemmas.Bool.Decides.{nat_tests}
use Rattle.model_wire.specs.Call.{Item}
use Rattle.model_wire.specs.declared.watch.Watch.{Watch}
use Rattle.model_hub.specs.declared.halt.Halt.{Halt}
use Rattle.model_hub.specs.declared.halt.Halt.TheVariants as is
use Rattle.model_hub.specs.declared.child.Child.{Child}
use Rattle.model_pump.specs.Posts.{Post}
use Rattle.model_hub.specs.Posts.{note}
use Rattle.model_hub.specs.Gathering.{Gathering, note_in, offer_all, after_post, gather, goes_on, are_taken, is_enough, is_full, is_halted, most_posts}
use Rattle.aio_select.specs.Answered.{gathering, Goes, Gathered, OffersAll, Notes, note_all}
use Rattle.aio_select.specs.Takes.{TakesPost, Takes, list_of}
use Rattle.aio_select.specs.declared.pumps.Noted.{Noted}

module _ (watched : List Watch) where
  one_more : (g : Gathering) (posts : List Post) (came : Post)
      → gather watched g (posts ++ came ∷ []) ≡ after_post watched (gather watched g posts) came
  one_more g [] came = refl
  one_more g (first ∷ posts) came = one_more (after_post watched g first) posts came

  goes_one_more : (g : Gathering) (posts : List Post) (came : Post)
      → goes_on watched g (posts ++ came ∷ []) ≡ (goes_on watched g posts && not (is_enough (gather watched g posts)))
  goes_one_more g [] came = with_true (not (is_enough g))
    where
      with_true : (b : Bool) → (b && true) ≡ b
      with_true true = refl
      with_true false = refl
  goes_one_more g (first ∷ posts) came =
      step (not (is_enough g)) (goes_on watched (after_post watched g first) (posts ++ came ∷ []))
      (goes_on watched (after_post watched g first) posts) (not (is_enough (gather watched (after_post watched g first) posts)))
      (goes_one_more (after_post watched g first) posts came)
    where
      step : (a b c d : Bool) → b ≡ (c && d) → (a && b) ≡ ((a && c) && d)
      step true b c d h = h
      step false b c d h = refl

  pub none_yet : (g : Gathering) (nones : ℕ) → Goes watched g g nones nones
  none_yet g nones = record { posts = []; taken = sym (append-nil g.taken); none = refl; goes = refl; gathers = refl }

  module _ (old now : Gathering) (nones nones_now : ℕ) (went : Goes watched old now nones nones_now) where
    and_then : (a b : Bool) → a ≡ true → b ≡ false → (a && not b) ≡ true
    and_then a b ha hb = ap (λ x. x && not b) ha ∙ ap not hb

    pub goes_one : (next : Gathering) (nones_next : ℕ) (came : Post) → is_enough now ≡ false → next ≡ after_post watched now came
        → next.taken ≡ now.taken ++ came ∷ [] → nones_next ≡ nones_now → Goes watched old next nones nones_next
    goes_one next nones_next came not_enough is took same =
        record {
          posts = went.posts ++ came ∷ [];
          taken = took ∙ ap (λ ts. ts ++ came ∷ []) went.taken ∙ append_assoc old.taken went.posts (came ∷ []);
          none = same ∙ went.none;
          goes =
              goes_one_more old went.posts came
              ∙ and_then (goes_on watched old went.posts) (is_enough (gather watched old went.posts)) went.goes
              (ap is_enough (sym went.gathers) ∙ not_enough);
          gathers = is ∙ ap (λ g. after_post watched g came) went.gathers ∙ sym (one_more old went.posts came);
        }

    ends : (found_none : Bool) → (if_enough : Bool) → is_enough now ≡ if_enough → cond if_enough (not found_none) found_none ≡ true
        → are_taken watched old went.posts found_none ≡ true
    ends found_none if_enough is holds =
        ap (λ b. b && cond (is_enough (gather watched old went.posts)) (not found_none) found_none) went.goes
        ∙ ap (λ g. cond (is_enough g) (not found_none) found_none) (sym went.gathers)
        ∙ ap (λ b. cond b (not found_none) found_none) is ∙ holds

    pub enough : is_enough now ≡ true → Gathered watched old now nones nones_now
    enough is =
        record {
          posts = went.posts;
          found_none = false;
          taken = went.taken;
          none = went.none;
          are_all = ends false true is refl;
          gathers = went.gathers;
        }

    pub found_none : (next : Gathering) (nones_next : ℕ) → is_enough now ≡ false → next ≡ now → nones_next ≡ nones_now + 1
        → Gathered watched old next nones nones_next
    found_none next nones_next not_enough same counted =
        record {
          posts = went.posts;
          found_none = true;
          taken = ap (λ (g : Gathering). g.taken) same ∙ went.taken;
          none = counted ∙ ap (λ n. n + 1) went.none;
          are_all = ends true false not_enough refl;
          gathers = same ∙ went.gathers;
        }

-- ---- whether it is enough
module _ (items kept : List Item) (children : List Child) (taken : List Post) (count : ℕ) where
  not_at_most : count < most_posts → nat_le most_posts count ≡ false
  not_at_most below = grind (arith, nat_tests)

  pub not_enough : count < most_posts → is_full items ≡ false → is_enough (gathering items kept children taken count is.Going) ≡ false
  not_enough below room = ap (λ b. cond b true (is_full items)) (not_at_most below) ∙ room

  pub enough_items : is_full items ≡ true → is_enough (gathering items kept children taken count is.Going) ≡ true
  enough_items full = past (nat_le most_posts count) (is_full items) full
    where
      past : (a b : Bool) → b ≡ true → cond a true b ≡ true
      past true b h = refl
      past false b h = h

  pub enough_posts : nat_le most_posts count ≡ true → is_enough (gathering items kept children taken count is.Going) ≡ true
  enough_posts all = ap (λ b. cond b true (is_full items)) all

  pub enough_halted : (halt : Halt) → is_halted halt ≡ true → is_enough (gathering items kept children taken count halt) ≡ true
  enough_halted halt is = ap (λ b. cond b true (cond (nat_le most_posts count) true (is_full items))) is

pub goes_when_not_halted : (halt : Halt) → is_halted halt ≡ false → halt ≡ is.Going
goes_when_not_halted is.Going h = refl
goes_when_not_halted is.Faulted h = absurd (false≢true (sym h))
goes_when_not_halted is.Starving h = absurd (false≢true (sym h))

-- ---- a post that was taken
module _ (watched : List Watch) (items kept items_now kept_now : List Item) (children children_now : List Child)
    (taken taken_now : List Post) (count : ℕ) (noted : Noted) where
  pub after_take : (took : TakesPost noted children taken children_now taken_now)
      → OffersAll watched items kept (list_of noted.item) items_now kept_now
      → gathering items_now kept_now children_now taken_now (count + 1) noted.halt
      ≡ after_post watched (gathering items kept children taken count is.Going) took.post
  after_take took offers =
      offers children_now taken_now (count + 1) noted.halt
      ∙ ap (λ cs. offer_all watched (gathering items kept cs taken_now (count + 1) noted.halt) (list_of noted.item)) took.notes
      ∙ ap (λ ts. offer_all watched (gathering items kept (map (note took.post) children) ts (count + 1) noted.halt) (list_of noted.item))
      took.takes
      ∙ ap (λ h. offer_all watched (gathering items kept (map (note took.post) children) (taken ++ took.post ∷ []) (count + 1) h) (list_of noted.item))
      took.halt
      ∙ ap (λ l. offer_all watched (note_in (gathering items kept children taken count is.Going) took.post) l) took.tells

-- ---- what the children noted
pub notes_none : (children : List Child) (taken : List Post) → Notes children taken children taken
notes_none children taken = record { posts = []; takes = sym (append-nil taken); notes = refl }

noted_more : (posts : List Post) (came : Post) (children : List Child) → note_all (posts ++ came ∷ []) children ≡ map (note came) (note_all posts children)
noted_more [] came children = refl
noted_more (first ∷ posts) came children = noted_more posts came (map (note first) children)

pub notes_after : (told : Option Noted) (children now next : List Child) (taken taken_now taken_next : List Post) (nones nones_next : ℕ)
    → Takes told now taken_now nones next taken_next nones_next → Notes children taken now taken_now → Notes children taken next taken_next
notes_after None children now next taken taken_now taken_next nones nones_next took notes =
    record { posts = notes.posts; takes = took.1 ∙ notes.takes; notes = took.0 ∙ notes.notes }
notes_after (Some noted) children now next taken taken_now taken_next nones nones_next took notes =
    let one = took.0 in
    record {
      posts = notes.posts ++ one.post ∷ [];
      takes = one.takes ∙ ap (λ (l : List Post). l ++ one.post ∷ []) notes.takes ∙ append_assoc taken notes.posts (one.post ∷ []);
      notes = one.notes ∙ ap (map (note one.post)) notes.notes ∙ sym (noted_more notes.posts one.post children);
    }
