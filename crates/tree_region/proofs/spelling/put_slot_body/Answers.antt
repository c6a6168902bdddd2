use Rattle.std.proofs.Common.{◌≡◌, ◌+◌, ◌-◌, ◌*◌, ◌≤◌, ℕ, List, length, drop, set, replicate, Some, sym, ap, subst, ◌∙◌, arith}
use Rattle.std.proofs.lemmas.List.{drop-set-lt}
use Rattle.file_tree.specs.Bodies.{tree_in_body}
use Rattle.tree_region.specs.GoodNumbers.{numbers_of_files}
use Rattle.tree_region.specs.Words.{words}
use Rattle.tree_region.proofs.Bodies.{front, part-put, numbers-written, rest-written, spells-written}
use Rattle.tree_region.proofs.spelling.put_slot_body.Goals as goal
use borrow.Rule.Slice.PartMut.{put_mid}

module _ (c : goal.After-slice_known-3-1) where
  abbrev part : List ℕ
  part = c.put_numbers.new.bytes

  abbrev numbers : List ℕ
  numbers = numbers_of_files c.args.tree.now c.args.table.now.files.items

  -- the numbers and zeros stand behind the entries
  parted : drop (front c.args.row.now) c.put_body.new.body ≡ part
  parted =
      let row = c.args.row.now in
      let body = c.args.body.now in
      let v = c.args.tree.now in
      let between = put_mid (front row) (length body - front row) body part in
      let place : 64 + 128 * (length v.files + length v.directories) ≡ front row = omega (arith, c.requires.files, c.requires.directories) in
      let room : front row ≤ length body = omega (arith, c.requires.long) in
      subst (λ n. drop n c.put_body.new.body ≡ drop n between) place c.put_body.ensures.behind ∙ part-put (front row) body part room

  spelled : words (length numbers) part ≡ numbers
  spelled = subst (λ (lists : List (List ℕ)). words (length (numbers_of_files c.args.tree.now lists)) part ≡ numbers_of_files c.args.tree.now lists) c.deref.ensures.value c.put_numbers.ensures.words

  padded : drop (4 * length numbers) part ≡ replicate (length part - 4 * length numbers) 0
  padded =
      subst (λ (lists : List (List ℕ)). drop (4 * length (numbers_of_files c.args.tree.now lists)) part ≡ replicate (length part - 4 * length (numbers_of_files c.args.tree.now lists)) 0) c.deref.ensures.value
      (c.put_numbers.ensures.behind ∙ ap (λ n. replicate (n - 4 * length (numbers_of_files c.args.tree.now c.deref.result.now)) 0) (sym c.put_numbers.ensures.long))

pub returns-clause-spelled : goal.returns-clause-spelled
returns-clause-spelled c = λ sequence few blocks long.
    let row = c.args.row.now in
    let v = c.args.tree.now in
    let body : List ℕ = set c.put_body.new.body 0 sequence in
    let behind : drop (front row) body ≡ part c = drop-set-lt (front row) c.put_body.new.body 0 sequence (omega arith) ∙ parted c in
    let zeros : ℕ = length (part c) - 4 * length (numbers c) in
    let tree : tree_in_body row.files row.directories body ≡ Some v
    = subst (λ n. tree_in_body n row.directories body ≡ Some v) c.requires.files (subst (λ n. tree_in_body (length v.files) n body ≡ Some v) c.requires.directories (c.put_body.ensures.tree sequence few)) in
    spells-written row v c.args.table.now.files.items body sequence c.requires.good c.requires.table (c.put_body.ensures.header sequence few) tree
    (numbers-written row body (numbers c) (part c) zeros c.requires.good.sum behind (spelled c) (padded c)) (rest-written row body (numbers c) (part c) zeros c.requires.good.sum behind (spelled c) (padded c)) blocks long

pub returns-clause-numbers : goal.returns-clause-numbers
returns-clause-numbers c =
    numbers-written c.args.row.now c.put_body.new.body (numbers c) (part c) (length (part c) - 4 * length (numbers c)) c.requires.good.sum (parted c) (spelled c) (padded c)
