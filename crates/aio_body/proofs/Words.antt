-- A list of values is a program with its arguments where all are texts, and there is one.
use Rattle.std.proofs.Common.{◌≡◌, ◌==◌, false, List, [], ◌∷◌, Option, Some, None, refl, sym, ◌∙◌, length}
use Rattle.std.proofs.lemmas.Bool.{true≢false}
use Rattle.std.specs.Prelude.{is_some}
use Rattle.std.specs.List.{list_all}
use Rattle.std.specs.Option.{option_map}
use Rattle.model_value.specs.Value.{Value, Text, Items, values}
use Rattle.model_machine.specs.Arguments.{as_words, texts_of}
use Rattle.aio_body.specs.Words.{is_text}

some_map : {A B : Type 0} (f : A → B) (o : Option A) → is_some (option_map f o) ≡ is_some o
some_map f None = refl
some_map f (Some a) = refl

texts_so : (items : List Value) → is_some (texts_of (values items)) ≡ list_all is_text items
texts_so [] = refl
texts_so (Text bytes ∷ items) = some_map (λ words. bytes ∷ words) (texts_of (values items)) ∙ texts_so items
texts_so (_ ∷ items) = refl

pub words_so : (items : List Value) → (length items == 0) ≡ false → list_all is_text items ≡ is_some (as_words (Items (values items)))
words_so [] some = absurd (true≢false some)
words_so (item ∷ items) some = sym (texts_so (item ∷ items))
