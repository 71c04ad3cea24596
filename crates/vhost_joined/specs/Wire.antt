-- A copy of a message, as contracts see it.
use Rattle.vhost_joined.specs.Text.{Text}
use Rattle.vhost_joined.specs.declared.wire.Wire.{Wire}

abbrev pub text_in : Wire → Text
text_in wire = record { bytes = wire.bytes.items; handles = wire.handles.items }
