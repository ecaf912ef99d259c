-- One more piece is read.
use Rattle.std.proofs.Common.{◌≡◌, ◌++◌, option_to_list, arith, ◌∙◌, sym, append-nil}
use Rattle.aio_lex.proofs.TokensLemmas.{TokensMore, tokens_more, tokens_start}
use Rattle.aio_lex.proofs.lexer.tokens.Goals as goal
use Rattle.aio_lex.proofs.lexer.tokens.Goals.{in-Some+in_ok-push, in_default}

pub loop-at-init : goal.loop-at-init
loop-at-init c =
    rw c.new-items.ensures.items (record { within = omega arith; tokens = tokens_start c.args.line.now })

-- what the piece adds
more : (c : goal.Joined-token)
    → TokensMore c.loop-at.at c.in_ok-token.field-0.len c.args.line.now c.loop-at.items.items
    (c.loop-at.items.items ++ option_to_list c.in_ok-token.field-0.token)
more c =
    tokens_more c.loop-at.at c.in_ok-token.field-0.len c.args.line.now c.loop-at.items.items
    (option_to_list c.in_ok-token.field-0.token) c.loop-at-test.true c.in_ok-token.ensures.0 c.in_ok-token.ensures.1

items : (c : goal.Joined-token) → c.match-token.items.items ≡ c.loop-at.items.items ++ option_to_list c.in_ok-token.field-0.token
items c =
    elim c.match-token.branch [
      | in-Some+in_ok-push w ↦ rw (w.items-is, w.in-Some.is) w.in_ok-push.ensures.items
      | in_default w ↦ rw (w.items-is, w.in_default.is) (sym (append-nil c.loop-at.items.items))
    ]

pub overflow_add-at-in-loop-at : goal.overflow_add-at-in-loop-at
overflow_add-at-in-loop-at c = let m = more c in omega (arith, m.within)

pub loop-at-smaller : goal.loop-at-smaller
loop-at-smaller c = let m = more c in omega (arith, m.some, m.within)

pub loop-at-preserved : goal.loop-at-preserved
loop-at-preserved c =
    let m = more c in
    rw (items c) (record { within = m.within; tokens = c.loop-at.invariant.tokens ∙ m.tokens })
