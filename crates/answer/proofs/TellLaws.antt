-- What a refusal tells.
use mathlib.Core.Path.{◌≡◌, refl, sym, ap, subst, ◌∙◌}
use Prim.Native.Nat.{ℕ, ◌<◌}
use Rattle.definition.specs.Sheet.{Sheet, file, line, column}
use Rattle.definition.specs.Outcome.{refused, refused_at}
use Rattle.lexer.specs.SrcPos.{packed, file_of, line_of, column_of}
use Rattle.lexer.proofs.Laws.{file_none, line_none, column_none, file_packed, line_packed, column_packed}
use Rattle.answer.specs.declared.Answer.{Answer}
use Rattle.answer.specs.Tells.{Tells}

-- refused with no position, and at a row
pub told_refused : (n : ℕ) (x : Answer) → x ≡ record { number = n; pos = record { 0 = 0 }; name = 0; rows = 0; globals = 0 } → Tells (refused n) x
told_refused n x e = subst (Tells (refused n)) (sym e) (record { number = refl; file = file_none; line = line_none; column = column_none; name = refl; rows = refl; globals = refl })

pub told_at : (n : ℕ) (s : Sheet) (r m p : ℕ) → p ≡ packed (file s r) (line s r) (column s r) → file s r < 262144 → line s r < 4294967296
    → (x : Answer) → Tells (refused n) x → Tells (refused_at n s r m) (record { number = x.number; pos = record { 0 = p }; name = m; rows = x.rows; globals = x.globals })
told_at n s r m p e f l x h =
    record {
      number = h.number;
      file = ap file_of e ∙ file_packed (file s r) (line s r) (column s r) f l;
      line = ap line_of e ∙ line_packed (file s r) (line s r) (column s r) f l;
      column = ap column_of e ∙ column_packed (file s r) (line s r) (column s r) f l;
      name = refl;
      rows = h.rows;
      globals = h.globals;
    }
