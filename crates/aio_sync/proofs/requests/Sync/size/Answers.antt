use Rattle.std.proofs.Common.{◌≡◌, Some, None, length, pos, slice_get, refl, sym, ap, ◌∙◌, w64}
use Rattle.std.proofs.lemmas.Int.{to_z-of_z}
use Rattle.std.proofs.lemmas.Option.{slice_get_read}
use Rattle.model_value.specs.Value.{Int}
use Rattle.aio_sync.specs.Numbers.{nat_in}
use Rattle.aio_sync.specs.Seen.{kept_of}
use Rattle.aio_sync.proofs.Answering.{size_says}
use Rattle.aio_sync.proofs.requests.Sync.size.Goals as goal

pub returns : goal.returns
returns c =
    let a = c.args in
    let items = c.deref.result.now in
    let place = c.in-Some.place in
    let is : nat_in a.number ≡ Some place = sym (c.place_in.ensures ∙ ap nat_in (to_z-of_z w64 a.number c.ranges.number)) ∙ c.in-Some.is in
    let held = c.in-Some-get.queue.now in
    let read = c.in-Some-get.ensures.lookup in
    let there = ap (λ qs. slice_get qs place) (sym c.deref.ensures.value) ∙ slice_get_read items (length items) place held refl read.3.0 read.1 in
    size_says (kept_of a.self.now) a.number place is (kept_of c.answer.new.self) a.parts.now a.parts.now held held there refl c.answer.ensures.after
    c.answer.result c.number_of.result c.answer.ensures.answer (c.number_of.ensures ∙ ap (λ n. Int (pos n)) c.len-size.ensures.len)
