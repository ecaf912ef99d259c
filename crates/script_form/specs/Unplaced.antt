-- A form before its place is looked at: the form, if no expression of it is too high, and where it may stand.
-- Source: the definitions of forms and of places (model_text, specs/Forms.antt, specs/Places.antt).
use Rattle.std.specs.Prelude.{◌≡◌, Option, Result, IfOk, option_map}
use Rattle.model_text.specs.Forms as plain
use Rattle.model_text.specs.Places.{height_of_form}
use Rattle.script_term.specs.Spelled.{plain_spelled}
use Rattle.script_form.specs.declared.forms.UnplacedForm.{UnplacedForm}
use Rattle.script_form.specs.declared.form_place.FormPlace.{FormPlace}
use Rattle.script_form.specs.Fitting.{fitting}
use Rattle.script_form.specs.Placed.{standing_of}

abbrev pub plain_unplaced : UnplacedForm → Option plain.Spelled × FormPlace
plain_unplaced unplaced = (option_map plain_spelled unplaced.form, unplaced.standing)

abbrev pub unplaced_of : plain.Spelled → Option plain.Spelled × FormPlace
unplaced_of form = (fitting height_of_form form, standing_of form)

-- The code read the form that the definition reads, or none where that reads none; or it gave up for want of memory.
abbrev pub Reads : {E : Type 0} → Result (Option UnplacedForm) E → Option plain.Spelled → Type 0
Reads result form = IfOk result (λ read. option_map plain_unplaced read ≡ option_map unplaced_of form)
