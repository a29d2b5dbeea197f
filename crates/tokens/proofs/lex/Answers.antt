-- `tokens::lex` meets its contract: the buffer holds the tokens so far.
use mathlib.Core.Path.{◌≡◌, sym, ap, ◌∙◌}
use native.Mathlib.Omega.{arith}
use Rattle.std.specs.Option.{ok_or}
use Rattle.std.specs.Result.{IsErrAnd}
use Rattle.std.specs.declared.option.Option.{Option}
use Rattle.std.specs.declared.option.Option.TheVariants.{Some, None}
use Rattle.std.specs.declared.result.Result.TheVariants.{Ok, Err}
use Rattle.layout.specs.Stage.{Stage}
use Rattle.layout.specs.declared.Refused.{Refused}
use Rattle.meaning.specs.Tokens.{piece}
use Rattle.tokens.specs.declared.Lexeme.TheVariants.{Gap, Token}
use Rattle.tokens.specs.Lexing.{lexeme}
use Rattle.tokens.proofs.SoFar.{rest, none_so_far, gap_moves, token_moves, after_gap, after-token, bad_there, all_so_far, too_long}
use Rattle.tokens.proofs.lex.Goals as goal
use Rattle.tokens.proofs.lex.Goals.{In-Gap, In-Token}

pub returns-then-text-gt-TEXT : goal.returns-then-text-gt-TEXT
returns-then-text-gt-TEXT c = too_long _ _ c.if-text-gt-TEXT.true

pub loop-at-init : goal.loop-at-init
loop-at-init c = none_so_far _ _

-- What stands at the place.
gap_here : (c : In-Gap) → Some (Gap c.in-Gap.len) ≡ lexeme c.loop-at.at (piece (rest c.args.text.now c.loop-at.at))
gap_here c = sym (c.in_ok-len.ensures.ok_part ∙ ap Some c.in-Gap.is) ∙ c.next.ensures

token_here : (c : In-Token) → Some (Token c.in-Token.kind c.in-Token.value c.in-Token.len) ≡ lexeme c.loop-at.at (piece (rest c.args.text.now c.loop-at.at))
token_here c = sym (c.in_ok-len.ensures.ok_part ∙ ap Some c.in-Token.is) ∙ c.next.ensures

pub overflow_add-at : goal.overflow_add-at
overflow_add-at c = omega (arith, gap_moves c.loop-at.invariant c.loop-at-test.true (gap_here c))

pub loop-at-smaller-in-Gap : goal.loop-at-smaller-in-Gap
loop-at-smaller-in-Gap c = omega (arith, gap_moves c.loop-at.invariant c.loop-at-test.true (gap_here c))

pub loop-at-preserved-in-Gap : goal.loop-at-preserved-in-Gap
loop-at-preserved-in-Gap c = after_gap c.loop-at.invariant c.loop-at-test.true (gap_here c)

pub overflow_add-at-in-Token : goal.overflow_add-at-in-Token
overflow_add-at-in-Token c = omega (arith, token_moves c.loop-at.invariant c.loop-at-test.true (token_here (goal.at.overflow_add-at-in-Token c).In-Token))

pub loop-at-smaller : goal.loop-at-smaller
loop-at-smaller c = omega (arith, token_moves c.loop-at.invariant c.loop-at-test.true (token_here (goal.at.loop-at-smaller c).In-Token))

pub loop-at-preserved : goal.loop-at-preserved
loop-at-preserved c = after-token c.loop-at.invariant c.loop-at-test.true (token_here (goal.at.loop-at-preserved c).In-Token) c.if-text-gt-TEXT.false c.requires c.put_unit.ensures

-- What is handed on where nothing may stand.
handed_on : {T : Type 0} (r : Stage) (o : Option T) (why wrong : Refused) → IsErrAnd r (λ e. e ≡ why) → Err why ≡ ok_or o wrong → r ≡ Err wrong
handed_on (Ok reached) o why wrong is told = elim is [ ]
handed_on (Err e) None why wrong is told = ap Err (is ∙ cc)
handed_on (Err e) (Some x) why wrong is told = cc

pub returns-in_err-len : goal.returns-in_err-len
returns-in_err-len c =
    rw (handed_on c.from_residual.result c.next.result _ _ c.from_residual.ensures.1 c.in_err-len.ensures.value)
    (bad_there c.loop-at.invariant c.loop-at-test.true (sym c.in_err-len.ensures.ok_part ∙ c.next.ensures) c.if-text-gt-TEXT.false)

pub returns : goal.returns
returns c = all_so_far c.loop-at.invariant c.loop-at-test.false c.if-text-gt-TEXT.false c.requires c.put_unit-2.ensures
