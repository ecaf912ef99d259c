-- The members are smaller than the exception, and each of them than the members together. The text so far grows by what
-- stands before a member and by the member's text.
use Rattle.std.proofs.Common.{rules, ◌≡◌, ◌+◌, ◌<◌, true, false, ◌++◌, [], ◌∷◌, take, ap, sym, ◌∙◌, append_assoc}
use Rattle.std.proofs.lemmas.List.{take_more}
use lib.Chars.{codes}
use Rattle.model_value.specs.Kinds.{kind_name}
use Rattle.model_value.specs.Escapes.{text_literal}
use Rattle.model_value.specs.Value.{kind_of, text_of}
use Rattle.model_value.specs.Shown.{is_group}
use Rattle.law_value.proofs.Joined.{separator-push, shown_members-push, shown_exc-parts}
use Rattle.aio_base.specs.Size.{exc_size, excs_size}
use Rattle.aio_base.proofs.Sizes.{exc_size-member, excs_size-members}
use Rattle.aio_base.proofs.text.+exc_text.Goals as goal
use Rattle.aio_base.proofs.text.+exc_text.Goals.{push_exc-then-eq+in_ok-extend_from_slice-2+in_ok-push_members+in_ok-push-2, push_exc-else-eq}

pub push_exc-push_members-requires : goal.push_exc-push_members-requires
push_exc-push_members-requires t c =
    let smaller : excs_size c.members.result.now < exc_size c.args.exc.now =
    rw c.members.ensures (excs_size-members c.args.exc.now) in
    search rules

pub push_exc-returns : goal.push_exc-returns
push_exc-returns t c =
    let e = c.args.exc.now in
    let front : c.push_text_literal.new.out.items ≡ c.args.out.now.items ++ (kind_name (kind_of e) ++ codes "(" ++ text_literal (text_of e)) =
    simp (
      c.in_ok-push_text_literal.ensures,
      c.in_ok-push.ensures.items,
      c.in_ok-extend_from_slice.ensures.items,
      c.as_bytes.ensures.value,
      c.name_of.ensures,
      c.kind.ensures,
      c.text.ensures,
      append_assoc,
    ) in
    rw (shown_exc-parts e)
    (
    elim c.if-eq.branch [
      | push_exc-then-eq+in_ok-extend_from_slice-2+in_ok-push_members+in_ok-push-2 w ↦
          let group : is_group (kind_of e) ≡ true = ap is_group (sym c.kind-2.ensures) ∙ sym w.if-eq.ensures in
          simp (
            c.in_ok-push-3.ensures.items,
            w.out-is,
            w.in_ok-push-2.ensures.items,
            w.in_ok-push_members.ensures,
            w.members.ensures,
            w.in_ok-extend_from_slice-2.ensures.items,
            front,
            group,
            append_assoc,
          )
      | push_exc-else-eq w ↦
          let other : is_group (kind_of e) ≡ false = ap is_group (sym c.kind-2.ensures) ∙ sym w.if-eq.ensures in
          simp (c.in_ok-push-3.ensures.items, w.out-is, front, other, append_assoc)
    ]
    )

pub push_members-push_exc-requires : goal.push_members-push_exc-requires
push_members-push_exc-requires t c =
    let smaller : exc_size c.member-item.result < excs_size c.args.members.now =
    exc_size-member c.args.members.now c.loop-member.member-index c.member-item.result c.loop-member-test.true c.member-item.is in
    search rules

pub push_members-loop-member-preserved : goal.push_members-loop-member-preserved
push_members-loop-member-preserved t c =
    let l = c.loop-member in
    let front = take l.member-index c.args.members.now in
    let member = c.member-item.result in
    let more : take (l.member-index + 1) c.args.members.now ≡ front ++ member ∷ [] =
    take_more c.args.members.now l.member-index member c.loop-member-test.true ∙ ap (λ x. front ++ x ∷ []) (sym c.member-item.is) in
    rw more (
      rw shown_members-push (simp (c.in_ok-push_exc.ensures, c.in_ok-extend_from_slice.ensures.items, l.invariant.0, l.invariant.1, append_assoc)),
      sym (separator-push front member),
    )
