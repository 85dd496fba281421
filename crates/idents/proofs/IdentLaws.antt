-- The slot of what an identifier means is asked of a local or argument alone.
use mathlib.Core.Path.{◌≡◌, refl}
use mathlib.Core.List.{List}
use Prim.Native.Nat.{ℕ}
use Rattle.definition.specs.Basics.{when◌then◌else◌}
use Rattle.machine.specs.Machine.{Store, is_outer_variable, add_capture}
use Rattle.symbols.specs.OpenDecls.{means, slot_or}
use Rattle.symbols.specs.declared.decl.OpenDecl.{OpenDecl}
use Rattle.symbols.specs.declared.decl.OpenDecl.TheVariants.{Fun, Class, Global, Variable, Toplevel}

pub captured_slot : (d : OpenDecl) (f n r w : ℕ) (fs : List ℕ) (o : Store) → (when is_outer_variable (means d) f then add_capture fs (record { key = r; one = w; two = slot_or 0 d }) o else o)
    ≡ (when is_outer_variable (means d) f then add_capture fs (record { key = r; one = w; two = slot_or n d }) o else o)
captured_slot (Fun g) f n r w fs o = refl
captured_slot (Class c) f n r w fs o = refl
captured_slot (Global g m) f n r w fs o = refl
captured_slot (Variable q g k) f n r w fs o = refl
captured_slot (Toplevel q g) f n r w fs o = refl
