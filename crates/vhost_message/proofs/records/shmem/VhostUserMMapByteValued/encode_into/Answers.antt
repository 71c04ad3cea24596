use Rattle.std.proofs.Common.{rules, ◌≡◌, ℕ, List, ◌++◌, ◌∙◌, append_assoc}
use Rattle.vhost_message.specs.Text.{digits}
use Rattle.vhost_message.proofs.records.shmem.VhostUserMMapByteValued.encode_into.Goals as goal

-- the head, and the four numbers behind it
regroup : (h p a b c d : List ℕ) → (h ++ p) ++ (((a ++ b) ++ c) ++ d) ≡ ((((h ++ p) ++ a) ++ b) ++ c) ++ d
regroup h p a b c d = simp append_assoc

pub returns-clause-text : goal.returns-clause-text
returns-clause-text c =
    let m = c.args.self.now in
    let head = c.write_head.ensures.text in
    let words = c.write_words.ensures.text in
    (λ i. head i ++ words i) ∙ regroup (digits 1 m.shmid) m.padding (digits 8 m.fd_offset) (digits 8 m.shm_offset) (digits 8 m.len) (digits 8 m.flags)

pub returns-clause-fits : goal.returns-clause-fits
returns-clause-fits c =
    let words = c.write_words.ensures.fits in
    record { shmid = c.write_head.ensures.fits; padding = search rules; fd_offset = words.0; shm_offset = words.1; len = words.2; flags = words.3 }
