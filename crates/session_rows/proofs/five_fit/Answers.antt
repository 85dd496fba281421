use Rattle.std.proofs.Common.{rules}
use Rattle.session_rows.proofs.RunLaws.{all_below}
use Rattle.session_rows.specs.Rows.{five_right}
use Rattle.std.specs.Prelude.{◌∷◌, [], ◌+◌, leb, get_or}
use Rattle.session_rows.proofs.five_fit.Goals as goal

pub returns : goal.returns
unfolding five_right
returns c =
    all_below (λ c₁. leb (get_or c.args.words.now (3 + c₁) 0) (get_or (1024 ∷ 32768 ∷ 4096 ∷ 1024 ∷ 8192 ∷ []) c₁ 0)) c.all.ensures.ran 5 (cc) (λ x b q k. search rules)
