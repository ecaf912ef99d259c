use Rattle.std.proofs.Common.{◌≡◌, ◌≤◌, ℕ, List, Option, Some, false, true, length, take, ap, sym, subst, ◌∙◌, arith, rules, length-append}
use Rattle.std.proofs.lemmas.List.{take_all}
use Rattle.model_wire.specs.Told.{ShelfSeen}
use Rattle.aio_wire.specs.Replied.{Kept}
use Rattle.law_entries.specs.Begins.{has_newline}
use Rattle.aio_wire.specs.Got.{ReadsAt}
use Rattle.aio_wire.specs.declared.source.SourceGot.TheVariants as got
use Rattle.aio_memwire.specs.Unread.{Unread, left_of, most_held}
use Rattle.aio_memwire.proofs.Giving.{added, kept_on, kept_same, kept_ended, left_added, none_read, none_ended, searched_on}
use Rattle.aio_memwire.proofs.journal.Journal.fetch.Goals as goal

pub loop-at-preserved-in-Bytes : goal.loop-at-preserved-in-Bytes
loop-at-preserved-in-Bytes g c =
    let seen = g.F.Shelf.seen in
    let told : Option (Option (List ℕ)) = (seen c.args.shelf.now).file c.args.name.now in
    let first : Unread = c.args.self.now in
    let it : Unread = c.loop-at.self in
    let bytes : List ℕ = c.items.result.now in
    let new : Unread = c.add.new.self in
    let is : new ≡ added bytes it = c.in_ok-add-in-Bytes.ensures in
    let no : has_newline c.self.inside.held.items ≡ false = search rules in
    let none : has_newline it.held ≡ false = sym (ap (λ (u : Unread). has_newline u.held) c.self.view_is) ∙ no in
    let open_ : it.ended ≡ false = sym (ap (λ (u : Unread). u.ended) c.self.view_is) ∙ c.if-self.false in
    let size : c.len-searched.result ≡ length it.held = c.len-searched.ensures.value ∙ ap (λ (u : Unread). length u.held) c.self.view_is in
    let came = rw c.in-Bytes.is at c.in_ok-bytes.ensures.bytes in
    let shelf : (seen c.loop-at.shelf).file c.args.name.now ≡ told = ap (λ (s : ShelfSeen). s.file c.args.name.now) c.loop-at.invariant.same in
    let read : (held : Option (List ℕ)) → told ≡ Some held → ReadsAt held it.from (got.Bytes bytes) =
    λ held t. subst (λ (n : ℕ). ReadsAt held n (got.Bytes bytes)) (ap (λ (u : Unread). u.from) c.self.view_is)
    (subst (λ (b : List ℕ). ReadsAt held c.self.inside.from (got.Bytes b)) (sym c.items.ensures) (came held (shelf ∙ t))) in
    let fits = rw c.in-Bytes.is at c.in_ok-bytes.ensures.size in
    let same = rw c.in-Bytes.is at c.in_ok-bytes.ensures.counted in
    record {
      within = omega (arith, size, ap (λ (u : Unread). length u.held) is, length-append it.held bytes);
      none = ap (λ (u : Unread). has_newline (take c.len-searched.result u.held)) is ∙ searched_on it.held bytes c.len-searched.result size none;
      same = same ∙ c.loop-at.invariant.same;
      kept = kept_on (left_of told first) (left_of told it) (left_of told new) c.loop-at.invariant.kept
          (kept_same (left_of told it) (left_of told new) (sym (ap (left_of told) is ∙ left_added told it bytes open_ read)));
      few = λ before.
          omega (arith, size, length-append it.held bytes, ap (λ (u : Unread). length u.held) is, c.if-searched-gt-MOST_LINE.false, fits.1, ap (λ (b : List ℕ). length b) c.items.ensures);
      missing = λ gone. absurd (none_read told it.from bytes read gone);
    }

pub loop-at-preserved : goal.loop-at-preserved
loop-at-preserved g c =
    let seen = g.F.Shelf.seen in
    let told : Option (Option (List ℕ)) = (seen c.args.shelf.now).file c.args.name.now in
    let first : Unread = c.args.self.now in
    let it : Unread = c.loop-at.self in
    let base : Unread = record { held = c.self.inside.held.items; from = c.self.inside.from; line = c.self.inside.line; ended = c.self.inside.ended } in
    let no : has_newline c.self.inside.held.items ≡ false = search rules in
    let came = rw c.in-End.is at c.in_ok-bytes.ensures.bytes in
    let shelf : (seen c.loop-at.shelf).file c.args.name.now ≡ told = ap (λ (s : ShelfSeen). s.file c.args.name.now) c.loop-at.invariant.same in
    let read : (held : Option (List ℕ)) → told ≡ Some held → ReadsAt held base.from got.End = λ held t. came held (shelf ∙ t) in
    let same = rw c.in-End.is at c.in_ok-bytes.ensures.counted in
    let kept = subst (λ (u : Unread). Kept (left_of told first) (left_of told u)) (sym c.self.view_is) c.loop-at.invariant.kept in
    record {
      within = omega (arith, c.len-searched.ensures.value);
      none = ap has_newline (take_all c.len-searched.result c.self.inside.held.items (omega (arith, c.len-searched.ensures.value))) ∙ no;
      same = same ∙ c.loop-at.invariant.same;
      kept = kept_on (left_of told first) (left_of told base) (left_of told (record base { ended = true })) kept
          (kept_ended told base c.if-self.false read);
      few = λ before. let now = c.loop-at.invariant.few before in subst (λ (u : Unread). length u.held ≤ most_held) (sym c.self.view_is) now;
      missing = λ gone. absurd (none_ended told base.from read gone);
    }
