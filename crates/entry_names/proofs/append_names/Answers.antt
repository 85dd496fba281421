-- `append_names` meets its contract. Invariant: of the names before those that are left the new ones are written; the rest follow from `to` on. Assumes nothing.
use Rattle.std.proofs.Common.{refl, sym, ap, ◌∙◌, ◌≡◌, ◌+◌, ◌∷◌, arith, List, length}
use Rattle.std.proofs.lemmas.List.Edits.{sets}
use Rattle.definition.specs.Basics.{total}
use Rattle.definition.specs.Names.{Name, listed}
use Rattle.names.proofs.Laws.{listed_short}
use Rattle.names.proofs.Question.{fit_small}
use Rattle.names.specs.declared.Names.{Names}
use Rattle.entry_names.specs.Told.{new_bytes}
use Rattle.entry_names.proofs.AppendLaws.{ended_size, name_written, new_written}
use Rattle.entry_names.proofs.append_names.Goals as goal

pub loop-name-init : goal.loop-name-init
loop-name-init c =
    let all : listed c.into_iter-name-iterator.result.0.now ≡ listed c.args.names.now = ap (λ (it : Names). listed it.0.now) c.into_iter-name-iterator.ensures.into_iter_gives in
    record {
      can = tt;
      finite = tt;
      counted = omega (arith, ap length all);
      within = omega (arith, ap (total (λ n. length n + 1)) all, listed_short c.args.names.now);
      size = refl;
      written = ap (λ (l : List Name). sets c.args.bytes.now c.args.at (new_bytes c.args.first c.args.numbers.now 0 l)) all;
    }

pub append_new-to-requires : goal.append_new-to-requires
append_new-to-requires c =
    omega (arith, c.loop-name.invariant.within, ap (total (λ n. length n + 1)) (c.in-Some.ensures.steps), (fit_small c.args.names.now c.requires.0).1, c.requires.1)

pub overflow_add-k : goal.overflow_add-k
overflow_add-k c = omega (arith, c.loop-name.invariant.counted, (fit_small c.args.names.now c.requires.0).0)

pub loop-name-preserved : goal.loop-name-preserved
loop-name-preserved c =
    let x = c.in-Some.name.now in
    let next : listed c.loop-name.name-iterator.0.now ≡ x ∷ listed c.next.new.self.0.now = c.in-Some.ensures.steps in
    record {
      can = tt;
      finite = tt;
      counted = omega (arith, c.loop-name.invariant.counted, ap length next);
      within = omega (arith, c.append_new-to.ensures.1, ended_size c.args.first c.word_at.result x, c.loop-name.invariant.within, ap (total (λ n. length n + 1)) next);
      size = omega (arith, c.append_new-to.auto.bytes, c.loop-name.invariant.size);
      written =
          name_written x (listed c.next.new.self.0.now) c.args.first c.args.numbers.now c.loop-name.bytes _ c.loop-name.k c.loop-name.to c.word_at.result c.append_new-to.result
          c.word_at.ensures c.append_new-to.ensures.0 c.append_new-to.ensures.1
          ∙ ap (λ (l : List Name). sets c.loop-name.bytes c.loop-name.to (new_bytes c.args.first c.args.numbers.now c.loop-name.k l)) (sym next)
          ∙ c.loop-name.invariant.written;
    }

pub returns : goal.returns
returns c =
    let left = c.in-None.ensures.steps in
    λ S told above.
    sym (ap (λ (l : List Name). sets c.loop-name.bytes c.loop-name.to (new_bytes c.args.first c.args.numbers.now c.loop-name.k l)) left.0)
    ∙ c.loop-name.invariant.written
    ∙ ap (sets c.args.bytes.now c.args.at) (new_written S c.args.names.now c.args.numbers.now told c.args.first above)
