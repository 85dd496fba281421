use mathlib.Core.Path.{refl}
use Rattle.outside.specs.Words.{name_at, spaced_at, methods_at, over}
use Rattle.outside.proofs.plain.core_words.Goals as goal

-- the words hold the core: computed
pub returns : goal.returns
unfolding over name_at spaced_at methods_at
returns c = refl
