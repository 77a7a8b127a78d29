-- The table of what P needs of the ratios of bands, for private contracts: an exponent and a chain each, 34 numbers. No public contract cites these. Definitions only.
use Rattle.std.specs.Prelude.{◌≡◌, ℕ, ◌+◌, ◌*◌, ◌/◌, ◌%◌, ◌^◌, ◌<◌, ◌≤◌, cond, ◌⊎◌, List, length, nat_lt, slice_index, slice_index_or, Float}
use Rattle.std.specs.Float.{binary32}
use Rattle.std.specs.Float.Ieee.{div}
use Rattle.bands.specs.Power.{chain, products}
use Rattle.bands.specs.Bands.{at_of}
use Rattle.bands.specs.Views.{start_of, exponent_of, finished, second_row}

-- ---- one chain, and the power by it
-- the 33 numbers from `at` on are a chain from a number between 2 ^ 31 and 2 ^ 32
pub record Links (l : List ℕ) (at : ℕ) : Type 0 where
  pub inside : at + 33 ≤ length l
  pub each : (j : ℕ) → j < 33 → slice_index l (at + j) ≡ chain (slice_index l at) j
  pub low : 2 ^ 31 ≤ slice_index l at
  pub high : slice_index_or l at 0 ≤ 2 ^ 32

-- the 34 numbers from `at` on are what P needs of q: its exponent and its chain
pub record Holds (l : List ℕ) (at : ℕ) (q : Float) : Type 0 where
  pub inside : at + 34 ≤ length l
  pub e : slice_index_or l at 0 ≡ exponent_of q
  pub each : (j : ℕ) → j < 33 → slice_index l (at + 1 + j) ≡ chain (start_of q) j

-- l has an exponent and a chain there
pub record Ready (l : List ℕ) (at : ℕ) : Type 0 where
  pub few : slice_index_or l at 0 < 278
  pub links : Links l (at + 1)

-- the power at n by the exponent and the chain that stand in l at `at`
abbrev pub power_in : List ℕ → ℕ → ℕ → Float
power_in l at n = finished (slice_index l at) n (second_row (slice_index l at) n (products (slice_index l (at + 1)) n (2 ^ 30) 32))

-- ---- the ratios of three channels
-- the ratio of band i + 1 to band i
abbrev pub ratio_at : (ℕ → Float) → ℕ → Float
ratio_at bs i = div binary32 (bs (i + 1)) (bs i)

-- ratio p of three channels: those of the first two bands, then those of the next two
abbrev pub ratio_of : List Float → ℕ → Float
ratio_of bs p = ratio_at (at_of bs) (p % 3 * 16 + p / 3)

-- what P needs of the ratios of n bands of each channel
pub record Held (bs : List Float) (n : ℕ) (l : List ℕ) : Type 0 where
  pub each : (p : ℕ) → p / 3 + 1 < n → Holds l (p * 34) (ratio_of bs p)

-- ---- the table as it is filled: first the exponents, then eight chains at a time
-- a table of chains from 2 ^ 31
pub record Blank (l : List ℕ) : Type 0 where
  pub long : length l ≡ 1632
  pub each : (k : ℕ) → k < 1632 → slice_index l k ≡ 2 ^ 31

-- where the chain of ratio m starts; 2 ^ 31 where there is none
abbrev pub start_at : List Float → ℕ → ℕ → ℕ
start_at bs n m = cond (nat_lt (m / 3 + 1) n) (start_of (ratio_of bs m)) (2 ^ 31)

-- the place of one of 48 ratios
pub record Room (a : ℕ) : Type 0 where
  pub no : ℕ
  pub is : a ≡ no * 34
  pub few : no < 48

-- a is such a place, and v the start of its chain
pub record Entry (bs : List Float) (n a v : ℕ) : Type 0 where
  pub room : Room a
  pub is : v ≡ start_at bs n room.no

-- one of the first n of `at` is the place of ratio m
pub record Among (n : ℕ) (at : List ℕ) (m : ℕ) : Type 0 where
  pub k : ℕ
  pub less : k < n
  pub is : slice_index_or at k 0 ≡ m * 34

-- l has the exponents of those ratios, each with a chain from 2 ^ 31 behind it; where that is not its own chain, its place is among the first
-- c of `at`, and s has the starts that belong to those places
pub record Started (bs : List Float) (n : ℕ) (l : List ℕ) (c : ℕ) (at s : List ℕ) : Type 0 where
  pub long : length l ≡ 1632
  pub few : c ≤ 45
  pub exponents : (m : ℕ) → m / 3 + 1 < n → slice_index l (m * 34) ≡ exponent_of (ratio_of bs m)
  pub numbers : (m j : ℕ) → m / 3 + 1 < n → j < 33 → slice_index l (m * 34 + 1 + j) ≡ 2 ^ 31
  pub entries : (k : ℕ) → k < 48 → Entry bs n (slice_index at k) (slice_index s k)
  pub chosen : (m : ℕ) → m / 3 + 1 < n → (start_of (ratio_of bs m) ≡ 2 ^ 31) ⊎ Among c at m

-- ---- eight of those places
-- r is the eight of l from p on
pub record Eighth (l : List ℕ) (p : ℕ) (r : List ℕ) : Type 0 where
  pub each : (i : ℕ) → i < 8 → slice_index r i ≡ slice_index l (p + i)

-- eight such places
pub record Rooms (at : List ℕ) : Type 0 where
  pub each : (i : ℕ) → i < 8 → Room (slice_index at i)

-- what belongs to one place is the same
pub record Alike (at v : List ℕ) : Type 0 where
  pub same : (i k : ℕ) → i < 8 → k < 8 → slice_index at i ≡ slice_index at k → slice_index v i ≡ slice_index v k

-- r is l with eight numbers v, j behind the places of `at`
pub record Scattered (l at : List ℕ) (j : ℕ) (v r : List ℕ) : Type 0 where
  pub long : length r ≡ length l
  pub each : Alike at v → (i : ℕ) → i < 8 → slice_index r (slice_index at i + j) ≡ slice_index v i
  pub keep : (k w : ℕ) → slice_index l k ≡ w → ((i : ℕ) → i < 8 → slice_index at i + j ≡ k → slice_index v i ≡ w) → slice_index r k ≡ w

-- r is l with the chains from eight starts, each behind the exponent at its place
pub record Linked (l at s r : List ℕ) : Type 0 where
  pub long : length r ≡ length l
  pub each : (i j : ℕ) → i < 8 → j < 33 → slice_index r (slice_index at i + (1 + j)) ≡ chain (slice_index s i) j
  pub keep : (k w : ℕ) → slice_index l k ≡ w → ((i j : ℕ) → i < 8 → j < 33 → slice_index at i + (1 + j) ≡ k → chain (slice_index s i) j ≡ w) → slice_index r k ≡ w
