use Rattle.std.proofs.Common.{◌≡◌, ◌∷◌, [], ◌++◌, ◌-◌, length, map, reverse, take, ap, sym, ◌∙◌}
use Rattle.model_text.specs.Places.{open_blocks, fits}
use Rattle.script_form.specs.Blocks.{plain_open, plain_role, plain_section}
use Rattle.script_form.proofs.PlaceLemmas.{last_read, section_fits, end_fits}
use Rattle.script_form.proofs.places.Places.fits.Goals as goal

pub returns-in-Begins-Some : goal.returns-in-Begins-Some
returns-in-Begins-Some c = λ roles behind.
    let items = c.args.self.now.blocks.items in
    let last = c.in-Begins-Some.innermost.now in
    let split : items ≡ take (length items - 1) items ++ last ∷ [] =
    rw c.deref.ensures.value at (last_read c.deref.result.now last c.in-Begins-Some.ensures.value) in
    section_fits (take (length items - 1) items) last c.begins.result (plain_section c.in-Begins-Some.section) roles
    (sym (ap (λ all. reverse (map plain_open all)) split) ∙ behind.blocks) c.begins.ensures
    ∙ ap (λ role. fits (open_blocks roles) (plain_role role)) (sym c.in-Begins-Some.is-0)

pub returns-in-Closes-Some : goal.returns-in-Closes-Some
returns-in-Closes-Some c = λ roles behind.
    let items = c.args.self.now.blocks.items in
    let last = c.in-Closes-Some.innermost.now in
    let split : items ≡ take (length items - 1) items ++ last ∷ [] =
    rw c.deref.ensures.value at (last_read c.deref.result.now last c.in-Closes-Some.ensures.value) in
    end_fits (take (length items - 1) items) last c.closes.result roles (sym (ap (λ all. reverse (map plain_open all)) split) ∙ behind.blocks) c.closes.ensures
    ∙ ap (λ role. fits (open_blocks roles) (plain_role role)) (sym c.in-Closes-Some.is-0)
