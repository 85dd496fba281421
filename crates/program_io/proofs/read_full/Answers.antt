use Rattle.std.proofs.Common.{◌≡◌, ℕ, ◌+◌, ◌-◌, ◌≤◌, List, ◌++◌, rules, length, take, drop, sym, ap, ◌∙◌, subst, length-take-le}
use Rattle.std.specs.Io.KnownBytes.{Consumes}
use Rattle.std.proofs.KnownBytes.{Consumes-trans}
use borrow.Rule.Slice.PartMut.{put_mid, post_of}
use lib.Seq.{take-add, take-append-le, take_at, drop_at}
use Rattle.program_io.proofs.read_full.Goals as goal

-- what stands at the start after n bytes more are read from place a on
read_more : (a k n : ℕ) (xs ys : List ℕ) → a ≤ length xs → n ≤ length ys → take (a + n) (put_mid a k xs ys) ≡ take a xs ++ take n ys
read_more a k n xs ys within fits =
    let long : length (take a xs) ≡ a = length-take-le a xs within in
    let rest = ys ++ post_of a k xs in
    take-add a n (take a xs ++ rest)
    ∙ ap (λ l. l ++ take n (drop a (take a xs ++ rest))) (take_at (take a xs) rest a long)
    ∙ ap (λ l. take a xs ++ take n l) (drop_at (take a xs) rest a long)
    ∙ ap (λ l. take a xs ++ l) (take-append-le n ys (post_of a k xs) fits)

pub loop-done-preserved : goal.loop-done-preserved
loop-done-preserved g c =
    let read = c.read_some-n in
    let now = read_more c.loop-done.done (length c.loop-done.bytes - c.loop-done.done) read.result c.loop-done.bytes read.new.bytes c.loop-done.invariant.1 read.ensures.count.0 in
    (search rules, search rules, search rules, subst (Consumes _ _) (sym now) (Consumes-trans _ _ _ _ _ c.loop-done.invariant.3 read.ensures.bytes))
