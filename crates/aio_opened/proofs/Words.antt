-- A list of values is a program with its arguments where all are texts, and there is one.
use Rattle.std.proofs.Common.{◌≡◌, ℕ, ◌==◌, false, List, [], ◌∷◌, ◌++◌, Option, Some, None, refl, ap, ◌∙◌, length}
use Rattle.std.proofs.lemmas.Bool.{true≢false}
use Rattle.std.specs.Option.{option_map}
use Rattle.model_value.specs.Value.{Value, Text, Items, values}
use Rattle.model_machine.specs.Arguments.{as_words, texts_of}
use Rattle.aio_opened.specs.Words.{text_in}

abbrev pub join : {A : Type 0} → Option (List A) → Option (List A) → Option (List A)
join None others = None
join (Some first) None = None
join (Some first) (Some others) = Some (first ++ others)

join_none : {A : Type 0} (o : Option (List A)) → o ≡ join (Some []) o
join_none None = refl
join_none (Some others) = refl

join_cons : {A : Type 0} (a : A) (first others : Option (List A))
    → option_map (λ l. a ∷ l) (join first others) ≡ join (option_map (λ l. a ∷ l) first) others
join_cons a None others = refl
join_cons a (Some first) None = refl
join_cons a (Some first) (Some others) = refl

pub texts_join : (xs ys : List Value) → texts_of (values (xs ++ ys)) ≡ join (texts_of (values xs)) (texts_of (values ys))
texts_join [] ys = join_none (texts_of (values ys))
texts_join (Text bytes ∷ xs) ys =
    ap (option_map (λ l. bytes ∷ l)) (texts_join xs ys) ∙ join_cons bytes (texts_of (values xs)) (texts_of (values ys))
texts_join (_ ∷ xs) ys = refl

pub texts_one : (x : Value) → texts_of (values (x ∷ [])) ≡ option_map (λ word. word ∷ []) (text_in x)
texts_one (Text bytes) = refl
texts_one _ = refl

-- one text more
pub texts_more : (xs : List Value) (x : Value) (words : List (List ℕ)) (word : List ℕ) → texts_of (values xs) ≡ Some words → text_in x ≡ Some word
    → texts_of (values (xs ++ x ∷ [])) ≡ Some (words ++ word ∷ [])
texts_more xs x words word e is =
    texts_join xs (x ∷ []) ∙ ap (λ o. join o (texts_of (values (x ∷ [])))) e ∙ ap (join (Some words)) (texts_one x ∙ ap (option_map (λ w. w ∷ [])) is)

-- what is no text
pub texts_none : (xs ys : List Value) (x : Value) → text_in x ≡ None → texts_of (values (xs ++ x ∷ ys)) ≡ None
texts_none xs ys x none = texts_join xs (x ∷ ys) ∙ ap (join (texts_of (values xs))) (first x none) ∙ no_join (texts_of (values xs))
  where
    first : (x : Value) → text_in x ≡ None → texts_of (values (x ∷ ys)) ≡ None
    first (Text bytes) e = absurd (cc)
    first _ e = refl

    no_join : {A : Type 0} (o : Option (List A)) → join o None ≡ None
    no_join None = refl
    no_join (Some first) = refl

-- a list that isn't empty is a program where all are texts
pub words_texts : (items : List Value) → (length items == 0) ≡ false → texts_of (values items) ≡ as_words (Items (values items))
words_texts [] some = absurd (true≢false some)
words_texts (item ∷ items) some = refl
