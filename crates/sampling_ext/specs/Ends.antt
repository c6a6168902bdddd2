-- The ends of channels, as the definitions of the services see them.
use Rattle.apex_model.specs.Tables.{End, source_end, destination_end}
use Rattle.sampling_ext.specs.declared.port.ChannelEnd.{ChannelEnd}
use Rattle.sampling_ext.specs.declared.port.ChannelEnd.TheVariants.{Source, Destination}

abbrev pub end_of : ChannelEnd → End
end_of Source = source_end
end_of (Destination d) = destination_end d
