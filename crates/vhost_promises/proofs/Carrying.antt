-- One more send, one more receive.
use Rattle.std.proofs.Common.{◌≡◌, ℕ, ◌-◌, List, [], ◌∷◌, ◌++◌, length, take, drop, append_assoc, refl, sym, ap, ◌∙◌, arith}
use Rattle.std.proofs.lemmas.List.{append-nil, length-drop, take_all}
use Rattle.vhost_protocol.specs.Stream.{carrying}
use Rattle.vhost_link.specs.declared.plain.PlainHandle.{PlainHandle}
use Rattle.vhost_promises.specs.declared.rings.part.Part.{Part}
use Rattle.vhost_promises.specs.Rings.{part_cells, sent_cells, bytes_behind}

pub sent-more : (hs : List PlainHandle) (bs : List ℕ) (counts : List ℕ) (n : ℕ) → sent_cells hs bs (counts ++ n ∷ []) ≡ sent_cells hs bs counts ++ carrying hs (take n (bytes_behind bs counts))
sent-more hs bs [] n = append-nil (carrying hs (take n bs))
sent-more hs bs (k ∷ counts) n = ap (λ cs. carrying hs (take k bs) ++ cs) (sent-more hs (drop k bs) counts n) ∙ sym (append_assoc (carrying hs (take k bs)) (sent_cells hs (drop k bs) counts) (carrying hs (take n (bytes_behind (drop k bs) counts))))

pub behind-more : (bs : List ℕ) (counts : List ℕ) (n : ℕ) → bytes_behind bs (counts ++ n ∷ []) ≡ drop n (bytes_behind bs counts)
behind-more bs [] n = refl
behind-more bs (k ∷ counts) n = behind-more (drop k bs) counts n

pub parts-more : (ps : List Part) (p : Part) → part_cells (ps ++ p ∷ []) ≡ part_cells ps ++ carrying p.handles.items p.bytes.items
parts-more [] p = append-nil (carrying p.handles.items p.bytes.items)
parts-more (q ∷ ps) p = ap (λ cs. carrying q.handles.items q.bytes.items ++ cs) (parts-more ps p) ∙ sym (append_assoc (carrying q.handles.items q.bytes.items) (part_cells ps) (carrying p.handles.items p.bytes.items))

-- all bytes from a place on
pub bytes-from : (at : ℕ) (bs : List ℕ) → take (length bs - at) (drop at bs) ≡ drop at bs
bytes-from at bs = take_all (length bs - at) (drop at bs) (omega (arith, length-drop at bs))
