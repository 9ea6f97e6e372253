-- Laws of the packets, which follow from the definitions alone: what is written reads back, what is read is written the same again,
-- and padding changes nothing.
use Rattle.std.specs.Prelude.{◌≡◌, Ok, Bool, true, false, not, ◌||◌, ℕ, zero, suc, ◌+◌, ◌-◌, ◌/◌, ◌%◌, ◌≤◌, ◌<◌, eqb, ltb, take, get_or, replicate}
use Rattle.std.proofs.Math.Path.{refl, sym, ap}
use Rattle.std.proofs.Common.{◌∙◌, length-drop, take_at, take-add, take-suc, drop_at, get_or-take, length-take-le}
use mathlib.Core.List.{List, [], ◌∷◌, ◌++◌, append_assoc, append-nil}
use Rattle.std.proofs.lemmas.List.Folds.{list_any-append}
use Rattle.std.proofs.Math.Decide.{dec_le}
use native.Mathlib.Omega.{arith}
use Rattle.std.proofs.Math.ListN.{length, drop, length-append}
use Rattle.std.proofs.lemmas.List.{take-append-le, drop-append-le}
use Rattle.std.proofs.Math.Seq.{take-append_seam, drop-drop}
use borrow.Author.Tests.{ltb-false, lt-ltb, eqb-true, not-false, le-ltb, eq-eqb}
use Rattle.answer.specs.Answer.{done, shape, size, pick, on_done, result_of, wrong}
use Rattle.answer.specs.Laws.{clear, ok_only}
use Rattle.octets.specs.Octets.{Octets, written, onward}
use Rattle.mschap_packets.specs.declared.Kind.{Kind}
use Rattle.mschap_packets.specs.declared.Kind.TheVariants as kinds
use Rattle.mschap_packets.specs.declared.Challenge.{Challenge}
use Rattle.mschap_packets.specs.declared.Response.{Response}
use Rattle.mschap_packets.specs.Packet.{challenge_length, response_length, longest_name, header_length, packet_code, value_size, least_length, header, packet_of, response_value, part, length_field, reserved, any_set, read_rows, read_code, challenge_read, response_read, name_of, name_at, write_rows, write_code, write_out, challenge_code, challenge_out, response_code, response_out}

-- an earlier row of the same code changes nothing
pub earlier : (t : Bool) (n : ℕ) → pick t n n ≡ n
earlier true n = refl
earlier false n = refl

-- a packet that names too small a length
pub read_least : {least n : ℕ} (kind : Kind) (packet : List ℕ) → least ≡ least_length kind → n ≡ length_field packet → n < least
    → shape ≡ read_code kind packet
unfolding read_code
read_least kind packet el en h = simp (lt-ltb (length_field packet) (least_length kind) (omega arith), earlier)

-- what holds of a packet to which no row of 1 applies
pub record Shaped (kind : Kind) (packet : List ℕ) : Type 0 where
  pub code : get_or packet 0 0 ≡ packet_code kind
  pub size : get_or packet 4 0 ≡ value_size kind
  pub least : least_length kind ≤ length_field packet
  pub inside : length_field packet ≤ length packet
  pub unset : any_set (reserved kind packet) ≡ false

-- its name is too long, or not
pub read_name : {least n : ℕ} {t : Bool} (kind : Kind) (packet : List ℕ) → Shaped kind packet → least ≡ least_length kind
    → n ≡ length_field packet → ltb longest_name (n - least) ≡ t → pick t size done ≡ read_code kind packet
unfolding read_code
read_name kind packet shaped el en ht =
    let long = le-ltb (length packet) (least_length kind) (omega (arith, shaped.least, shaped.inside)) in
    let code = eq-eqb (get_or packet 0 0) (packet_code kind) shaped.code in
    let size = eq-eqb (get_or packet 4 0) (value_size kind) shaped.size in
    let least = le-ltb (length_field packet) (least_length kind) shaped.least in
    let inside = le-ltb (length packet) (length_field packet) shaped.inside in
    rw (long, code, size, least, inside, shaped.unset, ← en, ← el, ht)

-- both tests fail
neither : (a b : Bool) → a || b ≡ false → (a ≡ false) × (b ≡ false)
neither true b h = (h, cc)
neither false b h = (refl, h)

-- what holds of a packet that is read
pub read_done : (kind : Kind) (packet : List ℕ) → read_code kind packet ≡ done
    → Shaped kind packet × (length_field packet - least_length kind ≤ longest_name)
unfolding read_code
read_done kind packet h =
    let coded = (clear shape (read_rows kind packet) refl h).1 in
    let sized = coded.1 in
    let least = sized.1 in
    let inside = least.1 in (
      record {
        code = eqb-true _ _ (not-false _ coded.0);
        size = eqb-true _ _ (not-false _ sized.0);
        least = ltb-false _ _ least.0;
        inside = ltb-false _ _ inside.0;
        unset = inside.1.0;
      },
      ltb-false _ _ (clear size (read_rows kind packet) refl h).0,
    )

-- how long a packet is
pub length_packet : (kind : Kind) (identifier : ℕ) (value name : List ℕ) → length value ≡ value_size kind
    → length (packet_of kind identifier value name) ≡ least_length kind + length name
unfolding packet_of header
length_packet kind identifier value name h = simp length-append (omega arith)

-- a packet, and whatever stands behind it
module _ (kind : Kind) (identifier : ℕ) (value name rest packet : List ℕ) (e : packet ≡ packet_of kind identifier value name ++ rest)
    (named : length name ≤ longest_name) where
  -- what its header says: the code, the identifier, the value's size, and the packet's own length
  fixed_fields : (get_or packet 0 0 ≡ packet_code kind) × (get_or packet 1 0 ≡ identifier) × (get_or packet 4 0 ≡ value_size kind)
  unfolding packet_of header
  fixed_fields = rw e (refl, refl, refl)

  length_named : length_field packet ≡ least_length kind + length name
  unfolding packet_of header
  length_named = ap length_field e ∙ go kind
    where
      go : (kind : Kind) → length_field (packet_of kind identifier value name ++ rest) ≡ least_length kind + length name
      go kinds.Challenge = omega arith
      go kinds.Response = omega arith

  -- what stands behind it
  behind : drop 5 packet ≡ value ++ (name ++ rest)
  unfolding packet_of header
  behind = ap (drop 5) e ∙ append_assoc value name rest

  -- a part of the value
  value_part : (front x tail : List ℕ) (k n : ℕ) → value ≡ front ++ (x ++ tail) → length front ≡ k → length x ≡ n
      → part (5 + k) n packet ≡ x
  value_part front x tail k n ev hf hx =
      let more : List ℕ = name ++ rest in
      let split : value ++ more ≡ front ++ (x ++ (tail ++ more)) = rw ev (simp append_assoc) in
      rw (← drop-drop k 5 packet, behind, split, drop_at front (x ++ (tail ++ more)) k hf, take_at x (tail ++ more) n hx)

  -- it is read where its reserved octets are zeros ..
  code_back : length value ≡ value_size kind → any_set (reserved kind packet) ≡ false → read_code kind packet ≡ done
  code_back hv hr =
      let whole = ap length e ∙ length-append (packet_of kind identifier value name) rest in
      let long : least_length kind + length name ≤ length packet = omega (arith, whole, length_packet kind identifier value name hv) in
      let n = length_named in
      let f = fixed_fields in
      let short = le-ltb longest_name (length_field packet - least_length kind) (omega arith) in
      let shaped : Shaped kind packet = record { code = f.0; size = f.2; least = omega arith; inside = omega arith; unset = hr } in
      sym (read_name kind packet shaped refl refl short)

  -- .. and so is its name
  name_back : length value ≡ value_size kind → read_code kind packet ≡ done → name_of kind packet ≡ name
  unfolding name_of
  name_back hv hr =
      let n = length_named in
      let split : drop (value_size kind) (drop 5 packet) ≡ name ++ rest = rw behind (drop_at value (name ++ rest) (value_size kind) hv) in
      rw (hr, ← drop-drop (value_size kind) 5 packet, split) (take_at name rest (length_field packet - least_length kind) (omega arith))

-- the name of a packet that is read, and the place where it stands: from the end of the value to the length field
pub name_done : {code start end : ℕ} (kind : Kind) (packet : List ℕ) (place : ℕ × ℕ) → code ≡ read_code kind packet → code ≡ done
    → start ≡ least_length kind → end ≡ length_field packet
    → (part start (end - start) packet ≡ name_of kind packet) × (onward start place ≡ onward (name_at kind packet) place)
unfolding name_of name_at
name_done kind packet place e h es ee = (rw (sym e ∙ h, es, ee), rw (sym e ∙ h, es))

-- a name that is too long is 3, whatever room there is, and nothing is written
pub long_name : (packet name out : List ℕ) → longest_name < length name
    → (size ≡ write_code false packet name out) × (out ≡ write_out false packet name out)
unfolding write_code write_out
long_name packet name out h = rw (lt-ltb longest_name (length name) h) (refl, refl)

-- what a call that answered 0 wrote: nothing was wrong, the name was not too long, and the packet stands in front
written_done : (t : Bool) (packet name out : List ℕ) → write_code t packet name out ≡ done
    → (t ≡ false) × (length name ≤ longest_name) × (write_out t packet name out ≡ packet ++ drop (length packet) out)
unfolding write_code write_out
written_done t packet name out h =
    let rows = clear size (write_rows t packet name out) refl h in
    (rows.0, ltb-false _ _ rows.1.0, rw h)

-- a Challenge that a call wrote reads back to the same fields and name, whatever the buffer holds behind it
pub challenge_reads_back : (identifier : ℕ) (challenge name out : List ℕ) → challenge_code identifier challenge name out ≡ done
    → (challenge_read (challenge_out identifier challenge name out) ≡ Ok (record { identifier = identifier; value = challenge }))
    × (name_of kinds.Challenge (challenge_out identifier challenge name out) ≡ name)
unfolding challenge_code challenge_out challenge_read
challenge_reads_back identifier challenge name out h =
    let packet : List ℕ = packet_of kinds.Challenge identifier challenge name in
    let rest : List ℕ = drop (length packet) out in
    let out' : List ℕ = challenge_out identifier challenge name out in
    let w = written_done (wrong challenge_length challenge) packet name out h in
    let size : length challenge ≡ 16 = eqb-true (length challenge) 16 (not-false _ w.0) in
    let code = code_back kinds.Challenge identifier challenge name rest out' w.2 w.1 size refl in
    let id = (fixed_fields kinds.Challenge identifier challenge name rest out' w.2 w.1).1 in
    let part-is = value_part kinds.Challenge identifier challenge name rest out' w.2 w.1 in
    let value = part-is [] challenge [] 0 16 (sym (append-nil challenge)) refl size in
    (rw (code, id, value), name_back kinds.Challenge identifier challenge name rest out' w.2 w.1 size code)

-- the parts of a Response's value: what stands in front of each, and behind it
value_parts : (peer response : List ℕ)
    → (response_value peer response ≡ [] ++ (peer ++ (replicate 8 0 ++ response ++ replicate 1 0)))
    × (response_value peer response ≡ peer ++ (replicate 8 0 ++ (response ++ replicate 1 0)))
    × (response_value peer response ≡ (peer ++ replicate 8 0) ++ (response ++ replicate 1 0))
    × (response_value peer response ≡ (peer ++ replicate 8 0 ++ response) ++ (replicate 1 0 ++ []))
unfolding response_value
value_parts peer response = (simp append_assoc, simp append_assoc, simp append_assoc, refl)

-- .. and so does a Response
pub response_reads_back : (identifier : ℕ) (peer response name out : List ℕ) → response_code identifier peer response name out ≡ done
    → (response_read (response_out identifier peer response name out)
    ≡ Ok (record { identifier = identifier; peer_challenge = peer; nt_response = response }))
    × (name_of kinds.Response (response_out identifier peer response name out) ≡ name)
unfolding response_code response_out response_read
response_reads_back identifier peer response name out h =
    let value : List ℕ = response_value peer response in
    let packet : List ℕ = packet_of kinds.Response identifier value name in
    let rest : List ℕ = drop (length packet) out in
    let out' : List ℕ = response_out identifier peer response name out in
    let w = written_done (wrong challenge_length peer || wrong response_length response) packet name out h in
    let right = neither (wrong challenge_length peer) (wrong response_length response) w.0 in
    let lp : length peer ≡ 16 = eqb-true (length peer) 16 (not-false _ right.0) in
    let lr : length response ≡ 24 = eqb-true (length response) 24 (not-false _ right.1) in
    let parts = value_parts peer response in
    let l₂ : length (peer ++ replicate 8 0) ≡ 24 = length-append peer (replicate 8 0) ∙ omega arith in
    let l₃ : length (peer ++ replicate 8 0 ++ response) ≡ 48 = length-append (peer ++ replicate 8 0) response ∙ omega arith in
    let lv : length value ≡ 49 = ap length parts.3 ∙ length-append (peer ++ replicate 8 0 ++ response) (replicate 1 0) ∙ omega arith in
    let part-is = value_part kinds.Response identifier value name rest out' w.2 w.1 in
    let zeros = part-is peer (replicate 8 0) (response ++ replicate 1 0) 16 8 parts.1 lp refl in
    let flags = part-is (peer ++ replicate 8 0 ++ response) (replicate 1 0) [] 48 1 parts.3 l₃ refl in
    let clear : any_set (reserved kinds.Response out') ≡ false = rw (zeros, flags) in
    let code = code_back kinds.Response identifier value name rest out' w.2 w.1 lv clear in
    let id = (fixed_fields kinds.Response identifier value name rest out' w.2 w.1).1 in
    let first = part-is [] peer (replicate 8 0 ++ response ++ replicate 1 0) 0 16 parts.0 refl lp in
    let second = part-is (peer ++ replicate 8 0) response (replicate 1 0) 24 24 parts.2 l₂ lr in
    (rw (code, id, first, second), name_back kinds.Response identifier value name rest out' w.2 w.1 lv code)

-- reserved octets that are clear are zeros
pub set_append : (a b : List ℕ) → any_set (a ++ b) ≡ any_set a || any_set b
set_append a b = list_any-append (λ octet. not (eqb octet 0)) a b

zeros : (l : List ℕ) → any_set l ≡ false → l ≡ replicate (length l) 0
zeros [] h = refl
zeros (x ∷ l) h =
    let split = neither (not (eqb x 0)) (any_set l) h in
    rw (eqb-true x 0 (not-false _ split.0), ← zeros l split.1)

length_part : (at n : ℕ) (packet : List ℕ) → at + n ≤ length packet → length (part at n packet) ≡ n
length_part at n packet h = length-take-le n (drop at packet) (omega (arith, length-drop at packet))

-- a Response's value is made of its parts
value_again : (packet : List ℕ) → Shaped kinds.Response packet
    → part header_length 49 packet ≡ response_value (part header_length 16 packet) (part 29 24 packet)
unfolding response_value
value_again packet shaped =
    let long : 54 ≤ length packet = omega (arith, shaped.least, shaped.inside) in
    let clear = neither _ _ (sym (set_append (part 21 8 packet) (part 53 1 packet)) ∙ shaped.unset) in
    let eight : part 21 8 packet ≡ replicate 8 0 = zeros _ clear.0 ∙ rw (length_part 21 8 packet (omega arith)) in
    let one : part 53 1 packet ≡ replicate 1 0 = zeros _ clear.1 ∙ rw (length_part 53 1 packet (omega arith)) in
    let cut : part 5 49 packet ≡ part 5 16 packet ++ part 21 8 packet ++ part 29 24 packet ++ part 53 1 packet =
    take-add 48 1 (drop 5 packet)
    ∙ rw (take-add 24 24 (drop 5 packet), take-add 16 8 (drop 5 packet), drop-drop 16 5 packet, drop-drop 24 5 packet, drop-drop 48 5 packet) in
    cut ∙ rw (eight, one)

-- a header is made of its fields
header_again : (kind : Kind) (packet : List ℕ) → Octets packet → Shaped kind packet
    → take header_length packet ≡ header kind (get_or packet 1 0) (length_field packet)
unfolding header
header_again kind packet octets shaped =
    let long : 5 ≤ length packet = omega (arith, shaped.least, shaped.inside) in
    let high : length_field packet / 256 % 256 ≡ get_or packet 2 0 = omega (arith, octets 2, octets 3) in
    let low : length_field packet / 1 % 256 ≡ get_or packet 3 0 = omega (arith, octets 2, octets 3) in
    let more : (i : ℕ) → i < 5 → take (suc i) packet ≡ take i packet ++ (get_or packet i 0 ∷ []) = λ i h. take-suc packet i 0 (omega arith) in
    rw (high, low, ← shaped.code, ← shaped.size, more 4 (omega arith), more 3 (omega arith), more 2 (omega arith), more 1 (omega arith), more 0 (omega arith))

-- a packet of octets that is read is, up to the length that it names, the packet that is made of its identifier, value and name
pub read_again : (kind : Kind) (packet : List ℕ) → Octets packet → read_code kind packet ≡ done
    → take (length_field packet) packet ≡ packet_of kind (get_or packet 1 0) (part header_length (value_size kind) packet) (name_of kind packet)
unfolding packet_of name_of
read_again kind packet octets h =
    let shaped = (read_done kind packet h).0 in
    let least = shaped.least in
    let inside = shaped.inside in
    let size : ℕ = value_size kind in
    let rest : ℕ = length_field packet - least_length kind in
    let named : length (part (5 + size) rest packet) ≡ rest = length_part (5 + size) rest packet (omega arith) in
    let whole : length_field packet ≡ 5 + (size + rest) = omega arith in
    let split : take (5 + (size + rest)) packet ≡ take 5 packet ++ (part 5 size packet ++ part (5 + size) rest packet) =
    take-add 5 (size + rest) packet ∙ rw (take-add size rest (drop 5 packet), drop-drop size 5 packet) in
    let all : least_length kind + length (part (5 + size) rest packet) ≡ length_field packet = omega arith in
    ap (λ (n : ℕ). take n packet) whole ∙ split ∙ rw (h, header_again kind packet octets shaped, all, append_assoc)

-- .. and that is written where there is room for it
write_again : {wrong_value : Bool} (kind : Kind) (identifier : ℕ) (value packet out : List ℕ) → Octets packet
    → read_code kind packet ≡ done → get_or packet 1 0 ≡ identifier → part header_length (value_size kind) packet ≡ value → wrong_value ≡ false
    → length_field packet ≤ length out
    → (write_code wrong_value (packet_of kind identifier value (name_of kind packet)) (name_of kind packet) out ≡ done)
    × (write_out wrong_value (packet_of kind identifier value (name_of kind packet)) (name_of kind packet) out
    ≡ written (take (length_field packet) packet) out)
unfolding write_code write_out name_of
write_again kind identifier value packet out octets h ei ev right room =
    let shaped = (read_done kind packet h).0 in
    let least = shaped.least in
    let inside = shaped.inside in
    let short = (read_done kind packet h).1 in
    let rest : ℕ = length_field packet - least_length kind in
    let named : length (name_of kind packet) ≡ rest = rw h (length_part (least_length kind) rest packet (omega arith)) in
    let made : packet_of kind identifier value (name_of kind packet) ≡ take (length_field packet) packet =
    sym (read_again kind packet octets h ∙ rw (ei, ev)) in
    let whole : length (take (length_field packet) packet) ≡ length_field packet = length-take-le (length_field packet) packet inside in
    let short-name = le-ltb longest_name (length (name_of kind packet)) (omega arith) in
    let fits = le-ltb (length out) (length (take (length_field packet) packet)) (omega arith) in
    rw (right, made, short-name, fits) (refl, refl)

-- a Challenge of octets that a call read is written again as it stood, up to its length, from the fields and the name that were read
pub challenge_writes_again : (identifier : ℕ) (challenge packet out : List ℕ) → Octets packet
    → challenge_read packet ≡ Ok (record { identifier = identifier; value = challenge })
    → length_field packet ≤ length out
    → (challenge_code identifier challenge (name_of kinds.Challenge packet) out ≡ done)
    × (challenge_out identifier challenge (name_of kinds.Challenge packet) out ≡ written (take (length_field packet) packet) out)
unfolding challenge_read challenge_code challenge_out
challenge_writes_again identifier challenge packet out octets e room =
    let r = ok_only (read_code kinds.Challenge packet) _ e in
    let shaped = (read_done kinds.Challenge packet r.0).0 in
    let long : 21 ≤ length packet = omega (arith, shaped.least, shaped.inside) in
    let id : get_or packet 1 0 ≡ identifier = ap (λ (r : Challenge). r.identifier) r.1 in
    let value : part 5 16 packet ≡ challenge = ap (λ (r : Challenge). r.value) r.1 in
    let size : length challenge ≡ 16 = ap length (sym value) ∙ length_part 5 16 packet (omega arith) in
    write_again kinds.Challenge identifier challenge packet out octets r.0 id value (rw (eq-eqb (length challenge) 16 size)) room

-- .. and so is a Response
pub response_writes_again : (identifier : ℕ) (peer response packet out : List ℕ) → Octets packet
    → response_read packet ≡ Ok (record { identifier = identifier; peer_challenge = peer; nt_response = response })
    → length_field packet ≤ length out
    → (response_code identifier peer response (name_of kinds.Response packet) out ≡ done)
    × (response_out identifier peer response (name_of kinds.Response packet) out ≡ written (take (length_field packet) packet) out)
unfolding response_read response_code response_out
response_writes_again identifier peer response packet out octets e room =
    let r = ok_only (read_code kinds.Response packet) _ e in
    let shaped = (read_done kinds.Response packet r.0).0 in
    let long : 54 ≤ length packet = omega (arith, shaped.least, shaped.inside) in
    let id : get_or packet 1 0 ≡ identifier = ap (λ (r : Response). r.identifier) r.1 in
    let first : part 5 16 packet ≡ peer = ap (λ (r : Response). r.peer_challenge) r.1 in
    let second : part 29 24 packet ≡ response = ap (λ (r : Response). r.nt_response) r.1 in
    let l₁ : length peer ≡ 16 = ap length (sym first) ∙ length_part 5 16 packet (omega arith) in
    let l₂ : length response ≡ 24 = ap length (sym second) ∙ length_part 29 24 packet (omega arith) in
    let value : part 5 49 packet ≡ response_value peer response = value_again packet shaped ∙ rw (first, second) in
    let right : wrong challenge_length peer || wrong response_length response ≡ false =
    rw (eq-eqb (length peer) 16 l₁, eq-eqb (length response) 24 l₂) in
    write_again kinds.Response identifier (response_value peer response) packet out octets r.0 id value right room

-- results that are the same where they are given
same_done : {A : Type 0} (n : ℕ) (result result' refused : A) → (n ≡ done → result ≡ result')
    → on_done n result refused ≡ on_done n result' refused
same_done zero result result' refused h = h refl
same_done (suc n) result result' refused h = refl

same_result : {A : Type 0} (n : ℕ) (result result' : A) → (n ≡ done → result ≡ result') → result_of n result ≡ result_of n result'
same_result zero result result' h = rw (h refl)
same_result (suc n) result result' h = refl

-- octets behind the length that a packet names are padding: with any of them every call answers the same, also where it refuses
module _ (packet padding : List ℕ) (headed : header_length ≤ length packet) (inside : length_field packet ≤ length packet) where
  octet_padded : (i : ℕ) → i < length packet → get_or (packet ++ padding) i 0 ≡ get_or packet i 0
  octet_padded i h = sym (get_or-take (length packet) (packet ++ padding) i 0 h) ∙ rw (take-append_seam packet padding)

  part_padded : (at n : ℕ) → at + n ≤ length packet → part at n (packet ++ padding) ≡ part at n packet
  part_padded at n h =
      rw (drop-append-le at packet padding (omega arith))
      (take-append-le n (drop at packet) padding (omega (arith, length-drop at packet)))

  reserved_padded : (kind : Kind) → least_length kind ≤ length packet → reserved kind (packet ++ padding) ≡ reserved kind packet
  reserved_padded kinds.Challenge h = refl
  reserved_padded kinds.Response h = rw (part_padded 21 8 (omega arith), part_padded 53 1 (omega arith))

  length_padded : length_field (packet ++ padding) ≡ length_field packet
  length_padded = rw (octet_padded 2 (omega arith), octet_padded 3 (omega arith))

  code_padded : (kind : Kind) → read_code kind (packet ++ padding) ≡ read_code kind packet
  unfolding read_code
  code_padded kind = go (dec_le (least_length kind) (length packet))
    where
      go : Dec (least_length kind ≤ length packet) → read_code kind (packet ++ padding) ≡ read_code kind packet
      go (yes h) =
          let more = length-append packet padding in
          let long = le-ltb (length packet) (least_length kind) h in
          let long' = le-ltb (length (packet ++ padding)) (least_length kind) (omega arith) in
          let whole = le-ltb (length packet) (length_field packet) inside in
          let whole' = le-ltb (length (packet ++ padding)) (length_field packet) (omega arith) in
          rw (long, long', octet_padded 0 (omega arith), octet_padded 4 (omega arith), length_padded, whole, whole', reserved_padded kind h)
      go (no h) =
          let small : length_field packet < least_length kind = omega arith in
          sym (read_least kind (packet ++ padding) refl (sym length_padded) small) ∙ read_least kind packet refl refl small

  valued : (kind : Kind) → read_code kind packet ≡ done → least_length kind ≤ length_field packet
  valued kind h = (read_done kind packet h).0.least

  pub name_padded : (kind : Kind) → name_of kind (packet ++ padding) ≡ name_of kind packet
  unfolding name_of
  name_padded kind =
      rw (code_padded kind, length_padded)
      (same_done (read_code kind packet) _ _ _ (λ h.
      part_padded (least_length kind) (length_field packet - least_length kind) (omega (arith, valued kind h))))

  pub place_padded : (kind : Kind) → name_at kind (packet ++ padding) ≡ name_at kind packet
  unfolding name_at
  place_padded kind = rw (code_padded kind)

  pub challenge_padded : challenge_read (packet ++ padding) ≡ challenge_read packet
  unfolding challenge_read
  challenge_padded =
      rw (code_padded kinds.Challenge)
      (same_result (read_code kinds.Challenge packet) _ _ (λ h.
      rw (octet_padded 1 (omega arith), part_padded 5 16 (omega (arith, valued kinds.Challenge h)))))

  pub response_padded : response_read (packet ++ padding) ≡ response_read packet
  unfolding response_read
  response_padded =
      rw (code_padded kinds.Response)
      (same_result (read_code kinds.Response packet) _ _ (λ h.
      let long = valued kinds.Response h in
      rw (octet_padded 1 (omega arith), part_padded 5 16 (omega arith), part_padded 29 24 (omega arith))))
