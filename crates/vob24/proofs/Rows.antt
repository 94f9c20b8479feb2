-- Table 3-7 by its rows: what `lead` gives at a first byte, in each range of bytes. Assumes nothing.
use Rattle.std.specs.Prelude.{ℕ, ◌≤◌, ◌≡◌}
use Rattle.std.proofs.Common.{⊎_elim, arith, ne_eqb}
use Rattle.vob24.specs.Utf8.{lead, bad, want}
use Rattle.vob24.specs.Ranges.{inside, below, above, lt-or-ge}
use Rattle.vob24.specs.Rows.{Row, r00, r80, rc2, re0, re1, red, ree, rf0, rf1, rf4, rf5}

pub lead00 : (b : ℕ) → 0x00 ≤ b → b ≤ 0x7f → lead b ≡ want 0 0x80 0xbf
lead00 b h k =
    rw (inside 0x00 0x7f b (omega arith) (omega arith))

pub lead80 : (b : ℕ) → 0x80 ≤ b → b ≤ 0xc1 → lead b ≡ bad
lead80 b h k =
    rw (above 0x00 0x7f b (omega arith), below 0xc2 0xdf b (omega arith), ne_eqb b 0xe0 (omega arith), below 0xe1 0xec b (omega arith), ne_eqb b 0xed (omega arith), below 0xee 0xef b (omega arith), ne_eqb b 0xf0 (omega arith), below 0xf1 0xf3 b (omega arith), ne_eqb b 0xf4 (omega arith))

pub leadc2 : (b : ℕ) → 0xc2 ≤ b → b ≤ 0xdf → lead b ≡ want 1 0x80 0xbf
leadc2 b h k =
    rw (above 0x00 0x7f b (omega arith), inside 0xc2 0xdf b (omega arith) (omega arith))

pub leade0 : (b : ℕ) → 0xe0 ≤ b → b ≤ 0xe0 → lead b ≡ want 2 0xa0 0xbf
leade0 b h k = let e : b ≡ 0xe0 = omega arith in rw e

pub leade1 : (b : ℕ) → 0xe1 ≤ b → b ≤ 0xec → lead b ≡ want 2 0x80 0xbf
leade1 b h k =
    rw (above 0x00 0x7f b (omega arith), above 0xc2 0xdf b (omega arith), ne_eqb b 0xe0 (omega arith), inside 0xe1 0xec b (omega arith) (omega arith))

pub leaded : (b : ℕ) → 0xed ≤ b → b ≤ 0xed → lead b ≡ want 2 0x80 0x9f
leaded b h k = let e : b ≡ 0xed = omega arith in rw e

pub leadee : (b : ℕ) → 0xee ≤ b → b ≤ 0xef → lead b ≡ want 2 0x80 0xbf
leadee b h k =
    rw (above 0x00 0x7f b (omega arith), above 0xc2 0xdf b (omega arith), ne_eqb b 0xe0 (omega arith), above 0xe1 0xec b (omega arith), ne_eqb b 0xed (omega arith), inside 0xee 0xef b (omega arith) (omega arith))

pub leadf0 : (b : ℕ) → 0xf0 ≤ b → b ≤ 0xf0 → lead b ≡ want 3 0x90 0xbf
leadf0 b h k = let e : b ≡ 0xf0 = omega arith in rw e

pub leadf1 : (b : ℕ) → 0xf1 ≤ b → b ≤ 0xf3 → lead b ≡ want 3 0x80 0xbf
leadf1 b h k =
    rw (above 0x00 0x7f b (omega arith), above 0xc2 0xdf b (omega arith), ne_eqb b 0xe0 (omega arith), above 0xe1 0xec b (omega arith), ne_eqb b 0xed (omega arith), above 0xee 0xef b (omega arith), ne_eqb b 0xf0 (omega arith), inside 0xf1 0xf3 b (omega arith) (omega arith))

pub leadf4 : (b : ℕ) → 0xf4 ≤ b → b ≤ 0xf4 → lead b ≡ want 3 0x80 0x8f
leadf4 b h k = let e : b ≡ 0xf4 = omega arith in rw e

pub leadf5 : (b : ℕ) → 0xf5 ≤ b → lead b ≡ bad
leadf5 b h =
    rw (above 0x00 0x7f b (omega arith), above 0xc2 0xdf b (omega arith), ne_eqb b 0xe0 (omega arith), above 0xe1 0xec b (omega arith), ne_eqb b 0xed (omega arith), above 0xee 0xef b (omega arith), ne_eqb b 0xf0 (omega arith), above 0xf1 0xf3 b (omega arith), ne_eqb b 0xf4 (omega arith))

pub row : (b : ℕ) → Row b
row b =
    ⊎_elim (λ k. r00 (omega arith) (omega arith) (lead00 b (omega arith) (omega arith))) (λ k00.
    ⊎_elim (λ k. r80 (omega arith) (omega arith) (lead80 b (omega arith) (omega arith))) (λ k80.
    ⊎_elim (λ k. rc2 (omega arith) (omega arith) (leadc2 b (omega arith) (omega arith))) (λ kc2.
    ⊎_elim (λ k. re0 (omega arith) (omega arith) (leade0 b (omega arith) (omega arith))) (λ ke0.
    ⊎_elim (λ k. re1 (omega arith) (omega arith) (leade1 b (omega arith) (omega arith))) (λ ke1.
    ⊎_elim (λ k. red (omega arith) (omega arith) (leaded b (omega arith) (omega arith))) (λ ked.
    ⊎_elim (λ k. ree (omega arith) (omega arith) (leadee b (omega arith) (omega arith))) (λ kee.
    ⊎_elim (λ k. rf0 (omega arith) (omega arith) (leadf0 b (omega arith) (omega arith))) (λ kf0.
    ⊎_elim (λ k. rf1 (omega arith) (omega arith) (leadf1 b (omega arith) (omega arith))) (λ kf1.
    ⊎_elim (λ k. rf4 (omega arith) (omega arith) (leadf4 b (omega arith) (omega arith))) (λ kf4.
    rf5 (omega arith) (leadf5 b (omega arith)))
    (lt-or-ge b 0xf5))
    (lt-or-ge b 0xf4))
    (lt-or-ge b 0xf1))
    (lt-or-ge b 0xf0))
    (lt-or-ge b 0xee))
    (lt-or-ge b 0xed))
    (lt-or-ge b 0xe1))
    (lt-or-ge b 0xe0))
    (lt-or-ge b 0xc2))
    (lt-or-ge b 0x80)
