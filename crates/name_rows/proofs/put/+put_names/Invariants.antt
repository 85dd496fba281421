use Rattle.name_rows.proofs.put.+put_names.Given as goal

abbrev pub decreases-put_names : goal.decreases-put_names
decreases-put_names l = l.n
