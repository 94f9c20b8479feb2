-- Table 3-7 by its rows: what `lead` gives at a first byte, in each range of bytes. Assumes nothing.
use Rattle.std.specs.Prelude.{ℕ, ◌≤◌, ◌≡◌}
use Rattle.vob24.specs.Utf8.{lead, bad, want}

-- the row of a first byte
pub data Row (b : ℕ) : Type 0 where
  r00 : 0x00 ≤ b → b ≤ 0x7f → lead b ≡ want 0 0x80 0xbf → Row b
  r80 : 0x80 ≤ b → b ≤ 0xc1 → lead b ≡ bad → Row b
  rc2 : 0xc2 ≤ b → b ≤ 0xdf → lead b ≡ want 1 0x80 0xbf → Row b
  re0 : 0xe0 ≤ b → b ≤ 0xe0 → lead b ≡ want 2 0xa0 0xbf → Row b
  re1 : 0xe1 ≤ b → b ≤ 0xec → lead b ≡ want 2 0x80 0xbf → Row b
  red : 0xed ≤ b → b ≤ 0xed → lead b ≡ want 2 0x80 0x9f → Row b
  ree : 0xee ≤ b → b ≤ 0xef → lead b ≡ want 2 0x80 0xbf → Row b
  rf0 : 0xf0 ≤ b → b ≤ 0xf0 → lead b ≡ want 3 0x90 0xbf → Row b
  rf1 : 0xf1 ≤ b → b ≤ 0xf3 → lead b ≡ want 3 0x80 0xbf → Row b
  rf4 : 0xf4 ≤ b → b ≤ 0xf4 → lead b ≡ want 3 0x80 0x8f → Row b
  rf5 : 0xf5 ≤ b → lead b ≡ bad → Row b
