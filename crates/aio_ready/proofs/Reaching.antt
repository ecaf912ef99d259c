-- Handles whose numbers do not fall below others: what changes them, and what passes them by.
use Rattle.std.proofs.Common.{◌≡◌, ◌≤◌, ◌==◌, ℕ, Bool, true, false, ◌||◌, List, [], ◌∷◌, ◌++◌, map, refl, nat_le, arith}
use Rattle.std.proofs.lemmas.Bool.{and_parts, true≢false}
use Rattle.std.proofs.lemmas.List.Folds.{list_all-append}
use Rattle.model_value.specs.Action.{Action}
use Rattle.aio_ready.specs.declared.handle.HandleName.{HandleName}
use Rattle.aio_ready.specs.declared.handle.HandleName.TheVariants.{Nameless, Given, Timer}
use Rattle.aio_ready.specs.declared.handle.Handle.{Handle}
use Rattle.aio_ready.specs.declared.index.Leaf.{Leaf}
use Rattle.aio_ready.specs.declared.least.Least.{Least}
use Rattle.aio_ready.specs.declared.entry.Entry.{Entry}
use Rattle.aio_ready.specs.declared.entry.Entry.TheVariants.{Loose, Registered}
use Rattle.aio_ready.specs.Names.{is_same}
use Rattle.aio_ready.specs.Entries.{loosely_marked}
use Rattle.aio_ready.specs.Reach.{reaches, is_reached, all_reach, IsBelow}

-- ---- a number that falls below names none of them
apart : (least number own : ℕ) → nat_le least number ≡ false → nat_le least own ≡ true → (number == own) ≡ false
apart least number own h k = grind arith

other : (least : Least) (name own : HandleName) → reaches least name ≡ false → reaches least own ≡ true → is_same name own ≡ false
other least Nameless own h k = absurd (true≢false h)
other least (Given number) Nameless h k = refl
other least (Given number) (Given own) h k = apart least.given number own h k
other least (Given number) (Timer own) h k = refl
other least (Timer number) Nameless h k = refl
other least (Timer number) (Given own) h k = refl
other least (Timer number) (Timer own) h k = apart least.timer number own h k

same_dead : (dead : Bool) → (dead || false) ≡ dead
same_dead true = refl
same_dead false = refl

one_passed : (least : Least) (name : HandleName) (entry : Entry) → reaches least name ≡ false → is_reached least entry ≡ true
    → loosely_marked name entry ≡ entry
one_passed least name (Loose handle leaf) h k = rw (other least name handle.name h k, same_dead handle.dead) refl
one_passed least name (Registered own action) h k = refl

pub passed_by : (least : Least) (name : HandleName) (entries : List Entry) → reaches least name ≡ false
    → all_reach least entries ≡ true → map (loosely_marked name) entries ≡ entries
passed_by least name [] h k = refl
passed_by least name (entry ∷ entries) h k =
    let parts = and_parts (is_reached least entry) (all_reach least entries) k in
    rw (one_passed least name entry h parts.0, passed_by least name entries h parts.1) refl

-- ---- marks leave names
mark_leaves : (least : Least) (name : HandleName) (entry : Entry)
    → is_reached least (loosely_marked name entry) ≡ is_reached least entry
mark_leaves least name (Loose handle leaf) = refl
mark_leaves least name (Registered own action) = refl

pub marks_leave : (least : Least) (name : HandleName) (entries : List Entry)
    → all_reach least (map (loosely_marked name) entries) ≡ all_reach least entries
marks_leave least name [] = refl
marks_leave least name (entry ∷ entries) = rw (mark_leaves least name entry, marks_leave least name entries) refl

-- ---- what falls below no number falls below no lesser one
lesser : (least other number : ℕ) → least ≤ other → nat_le other number ≡ true → nat_le least number ≡ true
lesser least other number h k = grind arith

one_lowered : (least other : Least) (name : HandleName) → IsBelow least other → reaches other name ≡ true → reaches least name ≡ true
one_lowered least other Nameless h k = refl
one_lowered least other (Given number) h k = lesser least.given other.given number h.0 k
one_lowered least other (Timer number) h k = lesser least.timer other.timer number h.1 k

entry_lowered : (least other : Least) (entry : Entry) → IsBelow least other → is_reached other entry ≡ true
    → is_reached least entry ≡ true
entry_lowered least other (Loose handle leaf) h k = one_lowered least other handle.name h k
entry_lowered least other (Registered name action) h k = refl

pub lowered : (least other : Least) (entries : List Entry) → IsBelow least other → all_reach other entries ≡ true
    → all_reach least entries ≡ true
lowered least other [] h k = refl
lowered least other (entry ∷ entries) h k =
    let parts = and_parts (is_reached other entry) (all_reach other entries) k in
    rw (entry_lowered least other entry h parts.0, lowered least other entries h parts.1) refl

-- ---- one row after another
pub in_a_row : (least : Least) (entries others : List Entry) → all_reach least entries ≡ true → all_reach least others ≡ true
    → all_reach least (entries ++ others) ≡ true
in_a_row least entries others h k = rw (list_all-append (is_reached least) entries others, h, k) refl

pub loose_reached : (least : Least) (handle : Handle) (leaf : Leaf) (entries : List Entry) → all_reach least entries ≡ true
    → reaches least handle.name ≡ true → all_reach least (entries ++ Loose handle leaf ∷ []) ≡ true
loose_reached least handle leaf entries h k = in_a_row least entries (Loose handle leaf ∷ []) h (rw k refl)

pub registered_reached : (least : Least) (name : HandleName) (action : Action) (entries : List Entry) → all_reach least entries ≡ true
    → all_reach least (entries ++ Registered name action ∷ []) ≡ true
registered_reached least name action entries h = in_a_row least entries (Registered name action ∷ []) h refl
