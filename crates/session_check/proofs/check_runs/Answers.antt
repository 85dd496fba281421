-- `check_runs` meets its contract. Assumes nothing.
use Rattle.std.proofs.Common.{sym, ap, not, ◌∙◌}
use Rattle.session_check.proofs.WholeLaws.{counts_refuse, names_refuse, numbers_decide, limited, room}
use Rattle.session_names.proofs.NameLaws.{listing_no, start_bytes}
use Rattle.session_check.proofs.check_runs.Goals as goal

pub returns-then-not-counts_fit : goal.returns-then-not-counts_fit
returns-then-not-counts_fit c =
    counts_refuse c.args.session.words.now c.args.session.bytes.now c.counts_fit.ensures (ap not c.if-not-counts_fit.true)

pub read_names-requires : goal.read_names-requires
read_names-requires c =
    let sizes = room c.args.session.words.now c.args.session.bytes.now c.counts_fit.ensures (ap not c.if-not-counts_fit.false) in
    (sizes.0, sizes.1)

pub returns-in_err-list : goal.returns-in_err-list
returns-in_err-list c =
    listing_no _ _ c.from_residual.ensures
    (names_refuse c.args.session.words.now c.args.session.bytes.now c.counts_fit.ensures (ap not c.if-not-counts_fit.false) c.in_err-list.ensures)

pub numbers_fit-requires : goal.numbers_fit-requires
numbers_fit-requires c =
    limited c.args.session.words.now c.args.session.bytes.now c.counts_fit.ensures (ap not c.if-not-counts_fit.false)

pub returns-then-not-numbers_fit : goal.returns-then-not-numbers_fit
returns-then-not-numbers_fit c =
    let list = c.in_ok-list.ensures in
    numbers_decide c.args.session.words.now c.args.session.bytes.now c.counts_fit.ensures
    (ap not c.if-not-counts_fit.false) list.0 _ (start_bytes c.args.session.words.now c.args.session.bytes.now list.1 c.in_ok-list.list.listed.of_names list.0)
    ∙ sym c.numbers_fit.ensures ∙ c.if-not-numbers_fit.true

pub returns : goal.returns
returns c =
    let list = c.in_ok-list.ensures in (
      numbers_decide c.args.session.words.now c.args.session.bytes.now c.counts_fit.ensures
          (ap not c.if-not-counts_fit.false) list.0 _ (start_bytes c.args.session.words.now c.args.session.bytes.now list.1 c.in_ok-list.list.listed.of_names list.0)
          ∙ sym c.numbers_fit.ensures ∙ c.if-not-numbers_fit.false,
      list.1,
    )
