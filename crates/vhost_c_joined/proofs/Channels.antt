-- There are channels, so what follows where one is opened is known.
use denote.RawPtr.{null_ptr}
use Rattle.std.specs.Prelude.{[]}
use Rattle.vhost_link.specs.Ends.{empty}
use Rattle.vhost_c_backend.specs.Serving.{Channel, Display}

pub a_channel : Channel
a_channel = record { inner = record { ptr = null_ptr; value = record { channel = tt; link = record { marker = record {}; value = empty [] }; budget = record { marker = record {}; value = 0 } } } }

pub a_display : Display
a_display = record { inner = record { ptr = null_ptr; value = record { channel = tt; link = record { marker = record {}; value = empty [] }; budget = record { marker = record {}; value = 0 } } } }
