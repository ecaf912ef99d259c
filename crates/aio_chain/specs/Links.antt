-- How the nodes of a chain lead to one another.
use Rattle.std.specs.Prelude.{◌≡◌, Bool, true, false, List, [], ◌∷◌, map}
use denote.RawPtr.{Ptr}

-- whether nothing is in a list
abbrev pub is_empty : {X : Type 0} → List X → Bool
is_empty [] = true
is_empty (x ∷ xs) = false

-- where a node lies, its `next`, and its `last`
abbrev pub Link : Type 0
Link = Ptr × Ptr × Bool

-- the links of nodes that are listed with their handles
abbrev pub links_of : {Z : Type 0} → List (Link × Z) → List Link
links_of = map (λ n. n.0)

-- a node leads through those after it to the last, which lies at t
abbrev pub GoesOn : Link → List Link → Ptr → Type 0
GoesOn l [] t = (l.2 ≡ true) × (t ≡ l.0)
GoesOn l (m ∷ ls) t = (l.2 ≡ false) × (l.1 ≡ m.0) × GoesOn m ls t

-- the head is where the first lies, and the tail is where the last lies
abbrev pub IsChained : Ptr → Ptr → List Link → Type 0
IsChained head tail [] = Unit {0}
IsChained head tail (l ∷ ls) = (head ≡ l.0) × GoesOn l ls tail
