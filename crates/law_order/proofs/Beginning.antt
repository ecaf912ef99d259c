-- A run begins in order; and what a state in order says of what was handed on.
use Rattle.std.proofs.Common.{◌≡◌, ℕ, true, false, List, [], ◌∷◌, ◌++◌, Some, length, take, drop, refl, sym, ap, ◌∙◌}
use Rattle.model_tree.specs.Syntax.{Program}
use Rattle.model_wire.specs.declared.event.Handed.{Handed}
use Rattle.model_wire.specs.declared.event.Handed.TheVariants as to
use Rattle.model_wire.specs.Journal.{Entry}
use Rattle.model_stream.specs.History.{handed, written_to}
use Rattle.model_stream.specs.Requests.{sender_of}
use Rattle.model_stream.specs.Senders.{Sender}
use Rattle.model_machine.specs.State.{State, start}
use Rattle.law_stream.proofs.SoundSends.{new_sound}
use Rattle.law_order.specs.Sides.{standing_as, standing_of}
use Rattle.law_order.specs.Order.{IsInOrder, IsOver}

pub begins : {S : Type 0} (most : ℕ) (state : S) (program : Program) (answers : List Entry) → IsInOrder (start most state program answers)
begins most state program answers (to.Conn id) = record { sound = new_sound false 0; order = record { rest = []; front = refl; unsent = λ live. refl } }
begins most state program answers (to.Child id) = record { sound = new_sound false 0; order = record { rest = []; front = refl; unsent = λ live. refl } }

taken_front : (front back : List ℕ) → take (length front) (front ++ back) ≡ front
taken_front [] back = refl
taken_front (byte ∷ front) back = ap (λ bytes. byte ∷ bytes) (taken_front front back)

dropped_front : (front back : List ℕ) → drop (length front) (front ++ back) ≡ back
dropped_front [] back = refl
dropped_front (byte ∷ front) back = dropped_front front back

module _ {S : Type 0} (s : State S) (ordered : IsInOrder s) (whom : Handed) where
  pub is_over : (standing_of whom s.streams).writer.ended ≡ true → IsOver whom (handed whom s.events) s.streams s.events s.loop.parts
  is_over over = record { ordered = ordered; over = over; hands = refl }

  pub handed_front : handed whom s.events ≡ take (length (handed whom s.events)) (written_to whom s.streams.written)
  handed_front =
      let order = (ordered whom).order in
      sym (ap (take (length (handed whom s.events))) order.front ∙ taken_front (handed whom s.events) order.rest)

  module _ (sender : Sender) (found : sender_of whom s.streams ≡ Some sender) where
    stands : standing_of whom s.streams ≡ sender
    stands = ap standing_as found

    pub unsent_rest : sender.writer.ended ≡ false
        → sender.writer.unsent ≡ drop (length (handed whom s.events)) (written_to whom s.streams.written)
    unsent_rest live =
        let order = (ordered whom).order in
        ap (λ (it : Sender). it.writer.unsent) (sym stands)
        ∙ order.unsent (ap (λ (it : Sender). it.writer.ended) stands ∙ live)
        ∙ sym (ap (drop (length (handed whom s.events))) order.front ∙ dropped_front (handed whom s.events) order.rest)

    pub unsent_dropped : sender.writer.ended ≡ true → sender.writer.unsent ≡ []
    unsent_dropped over =
        ap (λ (it : Sender). it.writer.unsent) (sym stands)
        ∙ (ordered whom).sound.nothing (ap (λ (it : Sender). it.writer.ended) stands ∙ over)
