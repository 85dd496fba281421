-- What a function captures: each variable of a function around it that an identifier in it means, once.
use mathlib.Core.Path.{◌≡◌}
use mathlib.Core.List.{List, ◌∷◌, Memᴰ as Mem}
use Prim.Native.Nat.{ℕ, ◌<◌}
use lib.ListN.{drop}
use lib.Dec.{T}
use Rattle.definition.specs.Basics.{filter, place}
use Rattle.definition.specs.Sheet.{Sheet}
use Rattle.definition.specs.Outside.{Outside}
use Rattle.definition.specs.Meaning.{row_of}
use Rattle.definition.specs.Scope.{Moment, history}
use Rattle.definition.specs.Capture.{Use, uses, captures, is_outer, same}
use Rattle.definition.proofs.Lists.Members.{mem_filter, filter_mem, distinct_mem, mem_distinct, distinct_order}

abbrev pub row_meant : Use → ℕ
row_meant u = row_of u.means

pub captured_use : (s : Sheet) (h : List Moment) (f : ℕ) (u : Use) → Mem u (captures s h f) → Mem u (uses s h) × T (is_outer f u)
captured_use s h f u m = filter_mem (is_outer f) u (uses s h) (distinct_mem row_meant u (filter (is_outer f) (uses s h)) m)

pub use_captured : (s : Sheet) (h : List Moment) (f : ℕ) (u : Use) → Mem u (uses s h) → T (is_outer f u) → (v : Use) × Mem v (captures s h f) × (row_meant v ≡ row_meant u)
use_captured s h f u m t = mem_distinct row_meant u (filter (is_outer f) (uses s h)) (mem_filter (is_outer f) u (uses s h) t m)

pub captures_ordered : (O : Outside) (s : Sheet) (f i j : ℕ) (u v : Use) (us vs : List Use)
    → drop i (captures s (history O s) f) ≡ u ∷ us → drop j (captures s (history O s) f) ≡ v ∷ vs → i < j
    → place (same u) (filter (is_outer f) (uses s (history O s))) < place (same v) (filter (is_outer f) (uses s (history O s)))
captures_ordered O s f i j u v us vs p q l = distinct_order row_meant (filter (is_outer f) (uses s (history O s))) i j u v us vs p q l
