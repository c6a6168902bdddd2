-- Which replies can be told in one line.
use Rattle.std.specs.Prelude.{IsNone, ⊤}
use Rattle.apex_types.specs.declared.replies.Reply.{Reply}
use Rattle.apex_types.specs.declared.replies.Values.{Values}
use Rattle.apex_types.specs.declared.replies.Values.TheVariants as values

-- the values hold data
abbrev pub HasData : Values → Type 0
HasData (values.Read bytes) = ⊤
HasData (values.Entry state bytes) = ⊤
HasData (values.Message updated validity bytes) = ⊤
HasData _ = ⊥

-- a reply has an errno or data, not both
abbrev pub IsTellable : Reply → Type 0
IsTellable reply = HasData reply.values → IsNone reply.errno
