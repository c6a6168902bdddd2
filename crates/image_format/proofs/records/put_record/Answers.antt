use Rattle.std.proofs.Common.{◌≡◌, ◌+◌, ◌-◌, ◌≤◌, [], ◌∷◌, ◌++◌, length, replicate, arith}
use Rattle.image_format.proofs.Padded.{record_back, name_few}
use Rattle.image_format.proofs.records.put_record.Goals as goal

pub returns-in-Some : goal.returns-in-Some
returns-in-Some c =
    let few : length c.in-Some.name ≤ 56 = name_few c.in-Some.name c.bytes.ensures.name in
    let made : c.put_padded.new.into ≡ ((c.args.r.now.kind ∷ c.args.r.now.index ∷ c.args.r.now.parent.0 ∷ length c.in-Some.name ∷ []) ++ c.in-Some.name) ++ replicate (512 - (4 + length c.in-Some.name)) 0 =
    rw (c.name_length.ensures, c.bytes.ensures.value, c.requires.long) at c.put_padded.ensures in
    let whole : 4 + length c.in-Some.name + (512 - (4 + length c.in-Some.name)) ≡ 512 = omega arith in
    rw made (record_back c.args.r.now c.in-Some.name (512 - (4 + length c.in-Some.name)) c.in-Some.is c.requires.spelled c.bytes.ensures.name whole)
