-- Which replies hold data.
use Rattle.std.specs.Prelude.{⊤}
use Rattle.apex_types.specs.declared.replies.Values.{Values}
use Rattle.apex_types.specs.declared.replies.Values.TheVariants as values

-- the values hold data
abbrev pub HasData : Values → Type 0
HasData (values.Read bytes) = ⊤
HasData (values.Entry state bytes) = ⊤
HasData (values.Message updated validity bytes) = ⊤
HasData _ = ⊥
