use Rattle.name_rows.proofs.put.+put_stored.Given as goal

abbrev pub decreases-put_stored : goal.decreases-put_stored
decreases-put_stored l = l.last
