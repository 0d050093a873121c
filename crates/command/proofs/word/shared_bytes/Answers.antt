-- `command::word::shared_bytes` meets its contract: the chain gives the bytes before the first that differs.
use Rattle.std.proofs.Common.{rules, tests, ◌≡◌, refl, ◌∙◌, arith, ◌+◌, ℕ, suc, Bool, true, false, List, [], ◌∷◌}
use mathlib.Core.Bool.{cond}
use lib.Dec.{eqb}
use Rattle.std.specs.List.{zip, prefix_len}
use Rattle.std.proofs.lemmas.Iterator.{YieldsList-from_slice, YieldsList-from_zip}
use Rattle.std.proofs.lemmas.Iterator.Search.{YieldsList-from_take_while}
use Rattle.std.proofs.lemmas.Iterator.Consumers.{count_from_yields_List}
use Rattle.std.proofs.lemmas.List.Folds.{length-prefix_len}
use Rattle.text.specs.Choice.{pick}
use Rattle.command.specs.Words.{shared}
use Rattle.command.proofs.word.shared_bytes.Goals as goal

abbrev same : ℕ × ℕ → Bool
same p = eqb p.1 p.0

shared-prefix : (word l : List ℕ) → prefix_len same (zip word l) ≡ shared word l
unfolding shared
shared-prefix [] l = refl
shared-prefix (c ∷ word) [] = refl
shared-prefix (c ∷ word) (b ∷ l) = go (eqb b c) (shared-prefix word l)
  where
    go : (t : Bool) → prefix_len same (zip word l) ≡ shared word l → cond t (1 + prefix_len same (zip word l)) 0 ≡ pick t (suc (shared word l)) 0
    go true e = omega arith
    go false e = refl

pub returns : goal.returns
returns c =
    count_from_yields_List c.take_while.result _ c.count.ensures.ran
    (YieldsList-from_take_while _ same (YieldsList-from_zip (YieldsList-from_slice c.args.word.now (cc)) (YieldsList-from_slice c.args.l.now (cc))) c.take_while.ensures.closure c.take_while.ensures.done
    (λ x b q k. search (rules, tests)))
    ∙ length-prefix_len same (zip c.args.word.now c.args.l.now) ∙ shared-prefix c.args.word.now c.args.l.now
