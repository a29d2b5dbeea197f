-- `tokens::constant` meets its contract.
use mathlib.Core.Path.{refl, sym, ◌∙◌}
use Rattle.meaning.specs.Tokens.{digit}
use Rattle.tokens.proofs.Constants.{one_nought, constant_more, constant_wrong, constant_large, constant_good}
use Rattle.tokens.proofs.constant.Goals as goal

pub returns-then-not-more-byte_at : goal.returns-then-not-more-byte_at
returns-then-not-more-byte_at c at = constant_more _ _ _ (sym (one_nought _ (c.run-more.ensures digit (λ b r is. is)) c.byte_at.ensures) ∙ c.if-not-more-byte_at.true)

pub returns-in_default : goal.returns-in_default
returns-in_default c at = constant_wrong _ _ _ c.in_default.ensures

pub returns-then-n-gt-FLOAT : goal.returns-then-n-gt-FLOAT
returns-then-n-gt-FLOAT c at = constant_large _ _ _ c.in-Some.ensures c.if-n-gt-FLOAT.true

pub returns : goal.returns
returns c at = constant_good _ _ _ c.in-Some.ensures c.if-n-gt-FLOAT.false
    (sym (one_nought _ (c.run-more.ensures digit (λ b r is. is)) c.byte_at.ensures) ∙ c.if-not-more-byte_at.false) c.whole-pattern.ensures refl
