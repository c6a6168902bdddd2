use Rattle.std.proofs.Common.{◌≡◌, ◌≤◌, ◌+◌, ◌-◌, ◌++◌, ◌<◌, ◌^◌, length, replicate, arith}
use Rattle.image_format.proofs.Padded.{front_of_entry, entry_back, name_few}
use Rattle.image_format.proofs.entries.put_entry.Goals as goal

pub returns-in-Used : goal.returns-in-Used
returns-in-Used c =
    let few : length c.in-Used.name ≤ 56 = name_few c.in-Used.name c.bytes.ensures.name in
    let made : c.put_padded-in-Used.new.into ≡ (front_of_entry (length c.in-Used.name) c.in-Used.parent.0 c.in-Used.size c.in-Used.changes ++ c.in-Used.name) ++ replicate (128 - (12 + length c.in-Used.name)) 0 =
    rw (c.front_of_entry-front.ensures, c.name_length.ensures, c.bytes.ensures.value, c.requires) at c.put_padded-in-Used.ensures in
    let whole : 12 + length c.in-Used.name + (128 - (12 + length c.in-Used.name)) ≡ 128 = omega arith in
    let small : c.in-Used.size < 2 ^ 32 = omega arith in
    let low : c.in-Used.changes < 2 ^ 32 = omega arith in
    let back = entry_back c.in-Used.name c.in-Used.parent.0 c.in-Used.size c.in-Used.changes (128 - (12 + length c.in-Used.name)) c.bytes.ensures.name small low whole in
    rw (made, c.in-Used.is) back
