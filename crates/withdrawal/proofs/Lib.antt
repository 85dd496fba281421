mod WithdrawLaws
