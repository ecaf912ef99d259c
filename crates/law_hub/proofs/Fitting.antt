-- Each step of a select keeps an answer that fits.
use Rattle.std.proofs.Common.{◌≡◌, ℕ, Bool, true, false, cond, ◌&&◌, ◌||◌, not, List, [], ◌∷◌, ◌++◌, refl}
use Rattle.std.proofs.lemmas.Bool.{false≢true}
use Rattle.std.specs.Prelude.{nat_le}
use Rattle.std.specs.List.{filter, list_any, list_all, flat_map}
use Rattle.model_value.specs.Number.{most}
use Rattle.model_wire.specs.Call.{Item}
use Rattle.model_wire.specs.declared.watch.Watch.{Watch}
use Rattle.model_wire.specs.Fits.{turn_fits, are_few, are_awaited, is_awaited, is_watched, is_watched_by, is_sized, stand_apart, clashes}
use Rattle.model_pump.specs.Posts.{Post}
use Rattle.model_hub.specs.Posts.{told_of}
use Rattle.model_hub.specs.Hub.{Hub}
use Rattle.model_hub.specs.Gathering.{Gathering, goes_in, offer, offer_all, add, add_all, kept_of, start, begin, stdin_items, note_in, after_post, gather}
use Rattle.model_hub.specs.Select.{polled_watch, is_no_child}

pub and_first : (a b : Bool) → (a && b) ≡ true → a ≡ true
and_first true b h = refl
and_first false b h = h

pub and_second : (a b : Bool) → (a && b) ≡ true → b ≡ true
and_second true b h = h
and_second false b h = absurd (false≢true h)

pub and_both : (a b : Bool) → a ≡ true → b ≡ true → (a && b) ≡ true
and_both true b h k = k
and_both false b h k = h

pub not_true : (a : Bool) → not a ≡ true → a ≡ false
not_true false h = refl
not_true true h = absurd (false≢true h)

-- what an answer is, whatever its time
abbrev Fit : List Watch → List Item → Type 0
Fit watched items = turn_fits watched 0 items ≡ true

of_two : (P : List Item → Type 0) (b : Bool) (first second : Gathering) → (b ≡ true → P first.items) → P second.items → P (cond b first second).items
of_two P true first second one two = one refl
of_two P false first second one two = two

module _ (watched : List Watch) where
  offer_fits : (g : Gathering) (came : Item) → Fit watched g.items → Fit watched (offer watched g came).items
  offer_fits g came fit =
      of_two (Fit watched) (goes_in watched g came) (record g { items = g.items ++ came ∷ [] }) (record g { kept = g.kept ++ kept_of came })
      (λ goes. and_second (not (list_any (clashes came) g.kept)) (turn_fits watched 0 (g.items ++ came ∷ [])) goes) fit

  offer_all_fits : (g : Gathering) (items : List Item) → Fit watched g.items → Fit watched (offer_all watched g items).items
  offer_all_fits g [] fit = fit
  offer_all_fits g (came ∷ more) fit = offer_all_fits (offer watched g came) more (offer_fits g came fit)

  add_fits : (g : Gathering) (came : Item) → Fit watched g.items → Fit watched (add watched g came).items
  add_fits g came fit =
      of_two (Fit watched) (turn_fits watched 0 (g.items ++ came ∷ [])) (record g { items = g.items ++ came ∷ [] }) g (λ fits. fits) fit

  add_all_fits : (g : Gathering) (items : List Item) → Fit watched g.items → Fit watched (add_all watched g items).items
  add_all_fits g [] fit = fit
  add_all_fits g (came ∷ more) fit = add_all_fits (add watched g came) more (add_fits g came fit)

  begin_fits : (hub : Hub) (sockets : List Item) → Fit watched sockets → Fit watched (begin watched hub sockets).items
  begin_fits hub sockets fit =
      add_all_fits (offer_all watched (start hub sockets) hub.kept) (flat_map (stdin_items hub.children) watched)
      (offer_all_fits (start hub sockets) hub.kept fit)

  after_post_fits : (g : Gathering) (came : Post) → Fit watched g.items → Fit watched (after_post watched g came).items
  after_post_fits g came fit = offer_all_fits (note_in g came) (told_of g.children came) fit

  gather_fits : (g : Gathering) (posts : List Post) → Fit watched g.items → Fit watched (gather watched g posts).items
  gather_fits g [] fit = fit
  gather_fits g (came ∷ more) fit = gather_fits (after_post watched g came) more (after_post_fits g came fit)

-- what is watched by fewer is watched by all
pub or_second : (a b : Bool) → b ≡ true → (a || b) ≡ true
or_second true b h = refl
or_second false b h = h

pub or_more : (a b c : Bool) → (b ≡ true → c ≡ true) → (a || b) ≡ true → (a || c) ≡ true
or_more true b c more h = refl
or_more false b c more h = more h

found_past : {A : Type 0} (p : A → Bool) (x : A) (xs ys : List A) → (list_any p ys ≡ true → list_any p xs ≡ true) → (b : Bool)
    → list_any p (cond b (x ∷ ys) ys) ≡ true → (p x || list_any p xs) ≡ true
found_past p x xs ys more true h = or_more (p x) (list_any p ys) (list_any p xs) more h
found_past p x xs ys more false h = or_second (p x) (list_any p xs) (more h)

found_in_all : {A : Type 0} (p q : A → Bool) (xs : List A) → list_any p (filter q xs) ≡ true → list_any p xs ≡ true
found_in_all p q [] h = h
found_in_all p q (x ∷ xs) h = found_past p x xs (filter q xs) (found_in_all p q xs) (q x) h

all_weaker : {A : Type 0} (p q : A → Bool) → ((x : A) → p x ≡ true → q x ≡ true) → (xs : List A) → list_all p xs ≡ true → list_all q xs ≡ true
all_weaker p q weaker [] h = refl
all_weaker p q weaker (x ∷ xs) h =
    and_both (q x) (list_all q xs) (weaker x (and_first (p x) (list_all p xs) h))
    (all_weaker p q weaker xs (and_second (p x) (list_all p xs) h))

awaited_by_all : (watched : List Watch) (came : Item) → is_awaited (polled_watch watched) came ≡ true → is_awaited watched came ≡ true
awaited_by_all watched came h =
    and_both (is_watched watched came) (is_sized came)
    (found_in_all (is_watched_by came) is_no_child watched (and_first (is_watched (polled_watch watched) came) (is_sized came) h))
    (and_second (is_watched (polled_watch watched) came) (is_sized came) h)

all_awaited : (watched : List Watch) (items : List Item) → are_awaited (polled_watch watched) items ≡ true → are_awaited watched items ≡ true
all_awaited watched items h =
    and_both (list_all (is_awaited watched) items) (stand_apart items)
    (all_weaker (is_awaited (polled_watch watched)) (is_awaited watched) (awaited_by_all watched) items
    (and_first (list_all (is_awaited (polled_watch watched)) items) (stand_apart items) h))
    (and_second (list_all (is_awaited (polled_watch watched)) items) (stand_apart items) h)

pub sockets_fit : (watched : List Watch) (now : ℕ) (sockets : List Item) → turn_fits (polled_watch watched) now sockets ≡ true → Fit watched sockets
sockets_fit watched now sockets h =
    let rest = and_second (nat_le now most) (are_few sockets && are_awaited (polled_watch watched) sockets) h in
    and_both (are_few sockets) (are_awaited watched sockets) (and_first (are_few sockets) (are_awaited (polled_watch watched) sockets) rest)
    (all_awaited watched sockets (and_second (are_few sockets) (are_awaited (polled_watch watched) sockets) rest))

pub select_fits : (watched : List Watch) (hub : Hub) (now : ℕ) (sockets : List Item) (posts : List Post)
    → turn_fits (polled_watch watched) now sockets ≡ true
    → turn_fits watched now (gather watched (begin watched hub sockets) posts).items ≡ true
select_fits watched hub now sockets posts h =
    let all = gather watched (begin watched hub sockets) posts in
    and_both (nat_le now most) (are_few all.items && are_awaited watched all.items)
    (and_first (nat_le now most) (are_few sockets && are_awaited (polled_watch watched) sockets) h)
    (gather_fits watched (begin watched hub sockets) posts (begin_fits watched hub sockets (sockets_fit watched now sockets h)))
