-- From the steps of the code to what the calls answer.
use Rattle.std.proofs.Common.{◌≡◌, refl, sym, ap, List, ◌++◌, append_assoc, ℕ, ◌+◌, ◌≤◌, ◌<◌, Ok, Err, length, drop, false, arith, lt-ltb, le-ltb}
use Rattle.std.proofs.Math.Seq.{drop-drop}
use Rattle.answer.specs.declared.Refusal.TheVariants.{Room}
use Rattle.answer.specs.Answer.{result_of}
use Rattle.mschap_packets.specs.declared.Kind.{Kind}
use Rattle.mschap_packets.specs.Packet.{longest_name, value_size, least_length, header, packet_of, write_code, write_out}
use Rattle.mschap_packets.proofs.Laws.{length_packet}

-- what is written of a packet
pub no_room : {least : ℕ} (kind : Kind) (identifier : ℕ) (value name out : List ℕ) → length value ≡ value_size kind
    → length name ≤ longest_name → least ≡ least_length kind → length out < least + length name
    → (Err Room ≡ result_of (write_code false (packet_of kind identifier value name) name out) (tt {0}))
    × (out ≡ write_out false (packet_of kind identifier value name) name out)
unfolding write_code write_out
no_room kind identifier value name out hv hn el h =
    let all = length_packet kind identifier value name hv in
    let short = lt-ltb (length out) (length (packet_of kind identifier value name)) (omega arith) in
    rw (le-ltb longest_name (length name) hn, short) (refl, refl)

drops : (n a b : ℕ) (out : List ℕ) → n ≡ 5 + a + b → drop n out ≡ drop b (drop a (drop 5 out))
drops n a b out e = rw (e, drop-drop a 5 out, drop-drop b (5 + a) out)

pub packet_written : {least : ℕ} {head rest : List ℕ} (kind : Kind) (identifier : ℕ) (value name out : List ℕ)
    → length value ≡ value_size kind → length name ≤ longest_name → least ≡ least_length kind → least + length name ≤ length out
    → head ≡ header kind identifier (least + length name) → rest ≡ drop (length name) (drop (length value) (drop 5 out))
    → (Ok (tt {0}) ≡ result_of (write_code false (packet_of kind identifier value name) name out) (tt {0}))
    × (head ++ (value ++ (name ++ rest)) ≡ write_out false (packet_of kind identifier value name) name out)
unfolding write_code write_out packet_of header
packet_written {least} {head} kind identifier value name out hv hn el h eh er =
    let packet : List ℕ = packet_of kind identifier value name in
    let all = length_packet kind identifier value name hv in
    let fits = le-ltb (length out) (length packet) (omega arith) in
    let behind = drops (length packet) (length value) (length name) out (omega arith) in
    let rest : List ℕ = drop (length name) (drop (length value) (drop 5 out)) in
    rw (le-ltb longest_name (length name) hn, fits) (
      refl,
      rw (behind, er, eh, el) (ap (λ (l : List ℕ). header kind identifier (least_length kind + length name) ++ l)
          (sym (append_assoc value name rest))),
    )
