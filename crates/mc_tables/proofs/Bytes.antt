-- The latest eight bytes as a word, and the bytes since the last whole word that std's SipHash keeps.
use Rattle.std.proofs.Common.{◌≡◌, ℕ, ◌+◌, ◌-◌, ◌*◌, ◌/◌, ◌%◌, ◌^◌, ◌<◌, ◌≤◌, bit_or, sym, ap, ◌∙◌, arith}
use Rattle.std.proofs.lemmas.Bool.{eq-eqb, ne_eqb}
use Rattle.std.proofs.lemmas.Nat.{or_lt, or_shr, pow-add, pow_pos, shl-shr, shr-shr}
use Rattle.std.proofs.Math.Nat.{div-eq_of_lt, div-one, le-mul_of_pos_right, mod-eq_of_lt, mul_assoc}
use Rattle.std.specs.Hash.DefaultHasher.{round, write_byte, write_word}
use Rattle.std.specs.declared.hash.DefaultHasher.{DefaultHasher}

-- the latest bytes after one more, and how many have come then
abbrev pub next : ℕ → ℕ → ℕ
next latest byte = bit_or (latest / 2 ^ 8) (byte * 2 ^ 56 % 2 ^ 64)

abbrev pub after : ℕ → ℕ
after written = (written + 1) % 2 ^ 64

-- a byte that is shifted in from above, the room below count bytes and it
module _ (count byte : ℕ) (few : count < 8) (small : byte < 256) where
  abbrev room : ℕ
  room = 56 - 8 * count

  shifted : byte * 2 ^ 56 ≡ byte * 2 ^ (8 * count) * 2 ^ room
  shifted =
      let all : 56 ≡ 8 * count + (56 - 8 * count) = omega (arith, few) in
      ap (λ bits. byte * 2 ^ bits) all ∙ ap (λ power. byte * power) (pow-add 2 (8 * count) room) ∙ sym (mul_assoc byte (2 ^ (8 * count)) (2 ^ room))

  highest : byte * 2 ^ 56 < 2 ^ 64
  highest = omega (arith, small)

  within : byte * 2 ^ (8 * count) < 2 ^ 64
  within =
      let most : byte * 2 ^ (8 * count) ≤ byte * 2 ^ (8 * count) * 2 ^ room = le-mul_of_pos_right (byte * 2 ^ (8 * count)) (pow_pos room) in
      omega (arith, most, shifted, highest)

  byte_down : byte * 2 ^ 56 % 2 ^ 64 / 2 ^ room ≡ byte * 2 ^ (8 * count) % 2 ^ 64
  byte_down =
      ap (λ x. x / 2 ^ room) (mod-eq_of_lt highest ∙ shifted) ∙ shl-shr (byte * 2 ^ (8 * count)) room ∙ sym (mod-eq_of_lt within)

  bytes_down : (latest : ℕ) → latest / 2 ^ 8 / 2 ^ room ≡ latest / 2 ^ (64 - 8 * count)
  bytes_down latest =
      let all : 8 + (56 - 8 * count) ≡ 64 - 8 * count = omega (arith, few) in
      shr-shr latest 8 room ∙ ap (λ bits. latest / 2 ^ bits) all

  joined : (latest : ℕ) → next latest byte / 2 ^ (56 - 8 * count) ≡ bit_or (latest / 2 ^ (64 - 8 * count)) (byte * 2 ^ (8 * count) % 2 ^ 64)
  joined latest = or_shr (latest / 2 ^ 8) (byte * 2 ^ 56 % 2 ^ 64) room ∙ (λ i. bit_or (bytes_down latest i) (byte_down i))

-- the words, with what std keeps of the latest bytes
abbrev pub kept : ℕ → ℕ → ℕ → ℕ → ℕ → ℕ → DefaultHasher
kept v0 v1 v2 v3 latest written = record {
  v0 = v0;
  v1 = v1;
  v2 = v2;
  v3 = v3;
  tail = latest / 2 ^ (64 - 8 * (written % 8));
  length = written;
}

module _ (v0 v1 v2 v3 latest written byte : ℕ) (fits : latest < 2 ^ 64) (small : byte < 256) where
  tail_after : next latest byte / 2 ^ (56 - 8 * (written % 8)) ≡ bit_or (latest / 2 ^ (64 - 8 * (written % 8))) (byte * 2 ^ (8 * (written % 8)) % 2 ^ 64)
  tail_after = joined (written % 8) byte (omega arith) small latest

  next_fits : next latest byte < 2 ^ 64
  next_fits = or_lt 64 (latest / 2 ^ 8) (byte * 2 ^ 56 % 2 ^ 64) (omega (arith, fits)) (omega arith)

  pub within_word : (after written % 8 ≡ 0 → ⊥) → kept v0 v1 v2 v3 (next latest byte) (after written) ≡ write_byte (kept v0 v1 v2 v3 latest written) byte
  unfolding write_byte
  within_word more =
      let places : 64 - 8 * (after written % 8) ≡ 56 - 8 * (written % 8) = omega (arith, more) in
      let tail = ap (λ bits. next latest byte / 2 ^ bits) places ∙ tail_after in
      rw (ne_eqb (after written % 8) 0 more) (λ i. record {
        v0 = v0;
        v1 = v1;
        v2 = v2;
        v3 = v3;
        tail = tail i;
        length = after written;
      })

  pub whole_word : after written % 8 ≡ 0 → write_word (kept v0 v1 v2 v3 (next latest byte) (after written)) (next latest byte) ≡ write_byte (kept v0 v1 v2 v3 latest written) byte
  unfolding write_byte write_word round
  whole_word whole =
      let places : 0 ≡ 56 - 8 * (written % 8) = omega (arith, whole) in
      let word = sym (div-one (next latest byte)) ∙ ap (λ bits. next latest byte / 2 ^ bits) places ∙ tail_after in
      let none = ap (λ count. next latest byte / 2 ^ (64 - 8 * count)) whole ∙ div-eq_of_lt next_fits in
      rw (eq-eqb (after written % 8) 0 whole) (λ i. write_word (record {
        v0 = v0;
        v1 = v1;
        v2 = v2;
        v3 = v3;
        tail = none i;
        length = after written;
      }) (word i))

-- of a whole word no byte is left
pub none_left : (latest written : ℕ) → latest < 2 ^ 64 → written % 8 ≡ 0 → latest / 2 ^ (64 - 8 * (written % 8)) ≡ 0
none_left latest written fits whole = ap (λ count. latest / 2 ^ (64 - 8 * count)) whole ∙ div-eq_of_lt fits
