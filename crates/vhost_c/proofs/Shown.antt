-- A session with a display shows a rectangle, and learns the display's features.
use Rattle.std.proofs.Common.{◌≡◌, ℕ, ℤ, ◌+◌, List, [], ◌∷◌, ◌++◌, length, map, replicate, Option, None, Some, Result, Ok, Err, refl, sym, ap, subst, ◌∙◌, arith}
use Rattle.std.specs.Option.{IsSomeAnd}
use Rattle.std.proofs.lemmas.List.{append-nil, map-append}
use Rattle.vhost_message.specs.Header.{Header, header_text}
use Rattle.vhost_message.specs.Records.{u64_at}
use Rattle.vhost_gpu_message.specs.GpuHeader.{gpu_fields_of}
use Rattle.vhost_gpu_message.specs.WordRecords.{update_text}
use Rattle.vhost_gpu_message.specs.declared.records.scanout.VhostUserGpuUpdate.{VhostUserGpuUpdate}
use Rattle.vhost_gpu_message.specs.declared.records.scanout.VhostUserGpuScanout.{VhostUserGpuScanout}
use Rattle.vhost_protocol.specs.Gpu.{GpuCall, GetProtocolFeatures, SetScanout, UpdateScanout, TheFeatures, gpu_row, gpu_head, gpu_cells, gpu_take}
use Rattle.vhost_protocol.specs.IoError.{IoError}
use Rattle.vhost_protocol.specs.ReplySplit.{reply_split, received}
use Rattle.vhost_protocol.specs.Stream.{Cell, bytes, carrying, plain}
use Rattle.vhost_protocol.proofs.TextLaws.{bytes-plain}
use Rattle.vhost_link.proofs.Cells.{bytes-carrying}
use Rattle.vhost_link.specs.declared.plain.PlainHandle.{PlainHandle}
use Rattle.vhost_gpu_backend_req.specs.Asking.{read_as}
use Rattle.vhost_gpu_backend_req.specs.Halves.{Keeps}
use Rattle.vhost_gpu_backend_req.specs.declared.call.Awaited.{Awaited}
use Rattle.vhost_c_common.specs.ByNumber.{By, some}
use Rattle.vhost_c_common.specs.Moving.{TakesIn}
use Rattle.vhost_c_common.specs.Number.{outcome_number}
use Rattle.vhost_c_common.specs.declared.refusal.Refusal.{Refusal}
use Rattle.vhost_c_channel.specs.Display.{Asks, Hears, IsNew, Receiving, Takes, TakesRecord, arrived, queued, heard, reads, other_size, other_form, nothing_asked, not_yet, not_awaited, takes}
use Rattle.vhost_c_channel.specs.declared.display.Display.{Display}
use Rattle.vhost_c.specs.Display.{AsksBy, OpensDisplay, TakesNumber, opened, was_open, no_room, sized_and_shown}

never : (r : Refusal) → outcome_number (Err r) ≡ 0 → ⊥
never r zero = grind arith

-- ---- calls that are answered 0

asked-at : {c : GpuCall PlainHandle} {s t : Display} {n : ℕ} → AsksBy c (Some s) n (Some t) → n ≡ 0 → Asks c s t
asked-at (some {outcome = Ok done} asks) zero = asks
asked-at (some {outcome = Err r} refused) zero = absurd (never r zero)

-- a session that one made of another
record Made (P : Display → Type 0) (new : Option Display) : Type 0 where
  session : Display
  is : new ≡ Some session
  made : P session

asked-of : {c : GpuCall PlainHandle} {s : Display} {n : ℕ} {new : Option Display} → AsksBy c (Some s) n new → n ≡ 0 → Made (λ t. Asks c s t) new
asked-of (some {s' = t} {outcome = Ok done} asks) zero = record { session = t; is = refl; made = asks }
asked-of (some {outcome = Err r} refused) zero = absurd (never r zero)

taken-of : {s : Display} {n : ℕ} {new : Option Display} → By (λ s o s'. Takes s s' o) (Some s) n new → n ≡ 0 → Made (λ t. Takes s t (Ok tt)) new
taken-of (some {s' = t} {outcome = Ok done} took) zero = record { session = t; is = refl; made = took }
taken-of (some {outcome = Err r} refused) zero = absurd (never r zero)

received-of : {bs : List ℕ} {s : Display} {n : ℕ} {new : Option Display} → By (Receiving bs []) (Some s) n new → n ≡ 0 → Made (λ t. Receiving bs [] s (Ok tt) t) new
received-of (some {s' = t} {outcome = Ok done} comes) zero = record { session = t; is = refl; made = comes }
received-of (some {outcome = Err r} refused) zero = absurd (never r zero)

number-of : {before after : ℕ} {s : Display} {n : ℕ} {new : Option Display} → By (TakesNumber before after) (Some s) n new → n ≡ 0 → Made (λ t. TakesRecord TheFeatures (u64_at 0) s t (Ok after)) new
number-of (some {s' = t} {outcome = Ok done} took) zero = record { session = t; is = refl; made = took }
number-of (some {outcome = Err r} refused) zero = absurd (never r zero)

-- ---- a rectangle is shown

abbrev size : VhostUserGpuScanout
size = record { scanout_id = 0; width = 2; height = 2 }

abbrev rectangle : VhostUserGpuUpdate
rectangle = record { scanout_id = 0; x = 0; y = 0; width = 2; height = 2 }

-- of a call that awaits no reply nothing is kept
unawaited : (kept : Option Awaited) → Keeps (gpu_row {H = PlainHandle} (SetScanout size)) kept → kept ≡ None
unawaited None keeps = refl
unawaited (Some a) keeps = absurd (cc (keeps.0))

-- and taking that changes nothing of what is to be sent
settled : (s t : Display) → s.asked ≡ Some None → Takes s t (Ok tt) → queued t ≡ queued s
settled s t none (not_awaited asked end queue settles) = queue
settled s t none (takes awaited took) = absurd (awaited none)

-- a call's message in a queue that had nothing
alone : (c : GpuCall PlainHandle) (s t : Display) → IsNew s → Asks c s t → (gpu_row c).payload ≡ [] → queued t ≡ gpu_cells (gpu_row c)
alone c s t fresh asks none = sym (append-nil (queued t)) ∙ ap (λ bs. queued t ++ plain bs) (sym none) ∙ asks.queue ∙ ap (λ xs. xs ++ gpu_cells (gpu_row c)) fresh.empty.queue

-- the second message is behind the first
both : (s t : Display) (pixels : List ℕ) → queued s ≡ gpu_cells (gpu_row (SetScanout size)) → Asks (UpdateScanout rectangle pixels) s t → length pixels ≡ 16 → bytes (queued t) ++ pixels ≡ sized_and_shown pixels
both s t pixels first asks long =
    let row = gpu_row {H = PlainHandle} (UpdateScanout rectangle pixels) in
    let text : bytes (gpu_cells row) ≡ header_text (record { code = 8; flags = 0; size = 20 + 16 }) ++ update_text rectangle ++ pixels =
    bytes-carrying row.handles (header_text (gpu_head row) ++ row.body ++ row.payload)
    ∙ ap (λ (n : ℕ). header_text (record { code = 8; flags = 0; size = 20 + n }) ++ update_text rectangle ++ pixels) long in
    ap (λ bs. bytes (queued t) ++ bs) (sym (bytes-plain PlainHandle pixels))
    ∙ sym (map-append (λ (c : Cell PlainHandle). c.byte) (queued t) (plain pixels))
    ∙ ap (λ cs. bytes cs) asks.queue
    ∙ map-append (λ (c : Cell PlainHandle). c.byte) (queued s) (gpu_cells row)
    ∙ (λ i. bytes (first i) ++ text i)

pub shown : {q a b d : ℕ} {old o p r new : Option Display} → OpensDisplay old q o → AsksBy (SetScanout size) o a p → By (λ s o s'. Takes s s' o) p b r
    → ((pixels : List ℕ) → length pixels ≡ 16 → AsksBy (UpdateScanout rectangle pixels) r d new) → old ≡ None → q ≡ 0 → a ≡ 0 → b ≡ 0 → d ≡ 0
    → IsSomeAnd new (λ s. (pixels : List ℕ) → length pixels ≡ 16 → bytes (queued s) ++ pixels ≡ sized_and_shown pixels)
shown {b = b} {d = d} {r = r} {new = new} (opened {s = s} fresh) sized taken update shut zq za zb zd =
    let one = asked-of sized za in
    let none = one.made.asked ∙ ap {A = Option Awaited} Some (unawaited one.made.kept one.made.keeps) in
    let two = taken-of (subst {A = Option Display} (λ o. By (λ s o s'. Takes s s' o) o b r) one.is taken) zb in
    let queue = settled one.session two.session none two.made ∙ alone (SetScanout size) s one.session fresh one.made refl in
    let goes : (pixels : List ℕ) → length pixels ≡ 16 → AsksBy (UpdateScanout rectangle pixels) (Some two.session) d new = λ pixels long. subst {A = Option Display} (λ o. AsksBy (UpdateScanout rectangle pixels) o d new) two.is (update pixels long) in
    let three = asked-of (goes (replicate 16 0) refl) zd in
    subst {A = Option Display} (λ o. IsSomeAnd o (λ s. (pixels : List ℕ) → length pixels ≡ 16 → bytes (queued s) ++ pixels ≡ sized_and_shown pixels)) (sym three.is)
    (λ pixels long. both two.session three.session pixels queue (asked-at (subst {A = Option Display} (λ o. AsksBy (UpdateScanout rectangle pixels) (Some two.session) d o) three.is (goes pixels long)) zd) long)
shown was_open sized taken update shut zq za zb zd = absurd (cc shut)
shown no_room sized taken update shut zq za zb zd = absurd (cc zq)

-- ---- the features are learnt

abbrev header : List ℕ
header = 1 ∷ 0 ∷ 0 ∷ 0 ∷ 4 ∷ 0 ∷ 0 ∷ 0 ∷ 8 ∷ 0 ∷ 0 ∷ 0 ∷ []

abbrev three : List ℕ
three = 3 ∷ 0 ∷ 0 ∷ 0 ∷ 0 ∷ 0 ∷ 0 ∷ 0 ∷ []

no-handles : (hs : List PlainHandle) → [] ≡ map Some hs → hs ≡ []
no-handles [] is = refl
no-handles (h ∷ hs) is = absurd cc

-- bytes came without a descriptor
came : (bs : List ℕ) (before after : List (Cell PlainHandle)) → TakesIn bs [] before after → after ≡ before ++ carrying [] bs
came bs before after t = t.got ∙ ap (λ hs. before ++ carrying hs bs) (no-handles t.handles t.of_fds)

-- the call whose reply is to be taken is among the rest
asked-of-rest : {old new : Option ℤ × Option (Option Awaited)} → new ≡ old → new.1 ≡ old.1
asked-of-rest same = ap (λ (r : Option ℤ × Option (Option Awaited)). r.1) same

-- what the definitions make of that reply
understood : gpu_take {H = PlainHandle} (Some TheFeatures) (gpu_head {H = PlainHandle} (gpu_row GetProtocolFeatures)) (plain (header ++ three)) ≡ (Ok three, [])
unfolding reply_split received
understood = refl

number-heard : (s t : Display) (head : Header) (n : ℕ) → Hears TheFeatures (u64_at 0) head s t (Ok n) → head ≡ gpu_head {H = PlainHandle} (gpu_row GetProtocolFeatures) → arrived s ≡ plain (header ++ three) → (n ≡ 3) × (queued t ≡ queued s)
number-heard s t head n (heard {answer = answer} cut is queue sound) asked comes =
    let all : ◌≡◌ {A = Result (List ℕ) IoError × List (Cell PlainHandle)} (Ok three, []) (answer, arrived t) = sym understood ∙ (λ i. gpu_take {H = PlainHandle} (Some TheFeatures) (sym asked i) (sym comes i)) ∙ cut in
    let read : answer ≡ Ok three = sym (ap (λ x. x.0) all) in
    let got : ◌≡◌ {A = Result ℕ IoError} (Ok n) (Ok 3) = is ∙ ap (λ x. read_as (u64_at 0) x) read in
    (cc got, queue)

number-read : (s t : Display) (o : Result ℕ Refusal) (n : ℕ) → TakesRecord TheFeatures (u64_at 0) s t o → o ≡ Ok n → (kept : Option Awaited) → s.asked ≡ Some kept → Keeps (gpu_row {H = PlainHandle} GetProtocolFeatures) kept
    → arrived s ≡ plain (header ++ three) → (n ≡ 3) × (queued t ≡ queued s)
number-read s t _ n (reads a (Ok m) missing asked form size' h settles) is kept same keeps comes =
    let one : kept ≡ Some a = cc (sym same ∙ asked) in
    let keep : Keeps (gpu_row {H = PlainHandle} GetProtocolFeatures) (Some a) = subst {A = Option Awaited} (λ k. Keeps (gpu_row {H = PlainHandle} GetProtocolFeatures) k) one keeps in
    let x = number-heard s t (gpu_fields_of a.request) m h keep.1 comes in
    (sym (cc is) ∙ x.0, x.1)
number-read s t _ n (reads a (Err e) missing asked form size' h settles) is kept same keeps comes = absurd (cc is)
number-read s t _ n (other_size a missing asked form size' none queue end settles) is kept same keeps comes = absurd (cc is)
number-read s t _ n (other_form k asked form stays) is kept same keeps comes = absurd (cc is)
number-read s t _ n (nothing_asked asked stays) is kept same keeps comes = absurd (cc is)
number-read s t _ n (not_yet more stays) is kept same keeps comes = absurd (cc is)

pub learnt : {q a b d e before after : ℕ} {old o p r v new : Option Display} → OpensDisplay old q o → AsksBy GetProtocolFeatures o a p → By (Receiving header []) p b r → By (Receiving three []) r d v → By (TakesNumber before after) v e new
    → old ≡ None → q ≡ 0 → a ≡ 0 → b ≡ 0 → d ≡ 0 → e ≡ 0 → (after ≡ 3) × IsSomeAnd new (λ s. bytes (queued s) ≡ 1 ∷ 0 ∷ 0 ∷ 0 ∷ 0 ∷ 0 ∷ 0 ∷ 0 ∷ 0 ∷ 0 ∷ 0 ∷ 0 ∷ [])
learnt {b = b} {d = d} {e = e} {before = before} {after = after} {r = r} {v = v} {new = new} (opened {s = s} fresh) asked first second number shut zq za zb zd ze =
    let one = asked-of asked za in
    let two = received-of (subst {A = Option Display} (λ o. By (Receiving header []) o b r) one.is first) zb in
    let six = received-of (subst {A = Option Display} (λ o. By (Receiving three []) o d v) two.is second) zd in
    let last = number-of (subst {A = Option Display} (λ o. By (TakesNumber before after) o e new) six.is number) ze in
    let came-first = came header (arrived one.session) (arrived two.session) two.made.0.1 ∙ ap (λ xs. xs ++ carrying [] header) one.made.nothing_waits in
    let came-all : arrived six.session ≡ plain (header ++ three) = came three (arrived two.session) (arrived six.session) six.made.0.1 ∙ ap (λ xs. xs ++ carrying [] three) came-first in
    let x = number-read six.session last.session (Ok after) after last.made refl one.made.kept (asked-of-rest six.made.0.3.rest ∙ asked-of-rest two.made.0.3.rest ∙ one.made.asked) one.made.keeps came-all in (
      x.0,
      subst {A = Option Display} (λ o. IsSomeAnd o (λ s. bytes (queued s) ≡ 1 ∷ 0 ∷ 0 ∷ 0 ∷ 0 ∷ 0 ∷ 0 ∷ 0 ∷ 0 ∷ 0 ∷ 0 ∷ 0 ∷ [])) (sym last.is)
          (ap (λ cs. bytes cs) (x.1 ∙ six.made.0.3.queue ∙ two.made.0.3.queue ∙ alone GetProtocolFeatures s one.session fresh one.made refl)),
    )
learnt was_open asked first second number shut zq za zb zd ze = absurd (cc shut)
learnt no_room asked first second number shut zq za zb zd ze = absurd (cc zq)
