-- The end of a hub.
use Rattle.std.specs.Prelude.{ℕ, not, List, [], ◌∷◌, ◌++◌, map, if◌then◌else◌}
use Rattle.std.specs.List.{filter, flat_map}
use Rattle.model_hub.specs.declared.pump.Pump.{Pump}
use Rattle.model_hub.specs.declared.pump.Pump.TheVariants as pump
use Rattle.model_hub.specs.declared.child.Child.{Child}
use Rattle.model_hub.specs.Children.{runs, was_given}
use Rattle.model_hub.specs.Hub.{Hub}

abbrev pub running_children : Hub → List Child
running_children hub = filter (λ (child : Child). runs child.stay) hub.children

abbrev pub number_of : Child → ℕ
number_of child = child.number

-- the children that are killed: those that run and whose exit wasn't taken
abbrev pub to_kill : Hub → List ℕ
to_kill hub = map number_of (filter (λ (child : Child). not child.exited) (running_children hub))

-- the lanes of a child to which Stop is given: all to which no Close was given
abbrev pub stops_of : Child → List (ℕ × Pump)
stops_of child =
    (if was_given child.closing then [] else (child.number, pump.Stdin) ∷ [])
    ++ (child.number, pump.Out) ∷ (child.number, pump.Errs) ∷ []

abbrev pub to_stop : Hub → List (ℕ × Pump)
to_stop hub = flat_map stops_of (running_children hub)

-- the runs that are taken in, in this order; each adds the ends of its stdin, out, errs and exit pumps
abbrev pub ends : {E : Type 0} → (ℕ → List E) → Hub → List E
ends reports hub = flat_map (λ (child : Child). reports child.number) (running_children hub)
