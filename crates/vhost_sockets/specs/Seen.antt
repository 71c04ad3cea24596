-- What a link that shows its requests may do.
use Rattle.vhost_link.specs.Law.{Event}
use Rattle.vhost_link.specs.Unix as unix
use Rattle.vhost_link.specs.declared.unix.NoHandle.{NoHandle}
use Rattle.vhost_sockets.specs.declared.seen.SeenLink.{SeenLink}

-- what its socket may do
abbrev pub event : SeenLink → Event NoHandle → SeenLink → Type 0
event old e new = unix.event old.link e new.link
