use mathlib.Core.List.{[], ◌∷◌}
use Rattle.symbols.proofs.EnvLaws.{pushed_count, pushed_words, full_count, full_words}
use lib.ListN.{length-set}
use native.Mathlib.Omega.{arith}
use Rattle.symbols.proofs.env.push_entry.Goals as goal

pub bounds-entries-i-then-n-lt4294967295 : goal.bounds-entries-i-then-n-lt4294967295
bounds-entries-i-then-n-lt4294967295 c = simp (length-set) (omega arith)

pub bounds-entries-i-then-n-lt4294967295-2 : goal.bounds-entries-i-then-n-lt4294967295-2
bounds-entries-i-then-n-lt4294967295-2 c = simp (length-set) (omega arith)

pub bounds-entries-i-then-n-lt4294967295-3 : goal.bounds-entries-i-then-n-lt4294967295-3
bounds-entries-i-then-n-lt4294967295-3 c = simp (length-set) (omega arith)

pub bounds-entries-i-then-n-lt4294967295-4 : goal.bounds-entries-i-then-n-lt4294967295-4
bounds-entries-i-then-n-lt4294967295-4 c = simp (length-set) (omega arith)

pub returns-then-n-lt4294967295 : goal.returns-then-n-lt4294967295
returns-then-n-lt4294967295 c = (
  pushed_count c.args.entries.now c.args.n (omega (arith, c.if-i-entries.true, c.if-n-lt4294967295.true)),
  pushed_words c.args.entries.now c.args.n c.args.tag c.args.name c.args.x
      c.args.y c.args.slot (omega (arith, c.if-i-entries.true, c.if-n-lt4294967295.true)),
)

pub returns-else-n-lt4294967295 : goal.returns-else-n-lt4294967295
returns-else-n-lt4294967295 c = (
  full_count c.args.entries.now c.args.n (omega (arith, c.if-n-lt4294967295.false)),
  full_words c.args.entries.now c.args.n
      (c.args.tag ∷ c.args.name ∷ c.args.x ∷ c.args.y ∷ c.args.slot ∷ [])
      (omega (arith, c.if-n-lt4294967295.false)),
)

pub returns-else-i-entries : goal.returns-else-i-entries
returns-else-i-entries c = (
  full_count c.args.entries.now c.args.n (omega (arith, c.if-i-entries.false)),
  full_words c.args.entries.now c.args.n
      (c.args.tag ∷ c.args.name ∷ c.args.x ∷ c.args.y ∷ c.args.slot ∷ [])
      (omega (arith, c.if-i-entries.false)),
)
