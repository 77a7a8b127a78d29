-- What is done eight side by side, for private contracts: roots, distances, and numbers of chains. No public contract cites these. Definitions only.
use Rattle.std.specs.Prelude.{◌≡◌, ℕ, ◌+◌, ◌-◌, ◌*◌, ◌/◌, ◌%◌, ◌^◌, ◌<◌, ◌≤◌, min, List, length, slice_index, to_bits, Float}
use Rattle.std.specs.Float.{binary32}
use Rattle.std.specs.Float.Ieee.{add, mul}
use Rattle.bands.specs.Root.{whole_root}
use Rattle.bands.specs.Distance.{share_of}
use Rattle.bands.specs.Views.{Down}

-- ---- eight roots
-- one of them, of at most 29 digits, in words of 32
abbrev pub Lane : ℕ → ℕ → ℕ → ℕ → ℕ → Type 0
Lane N n rem root left = Down (2 ^ 32) 29 N n rem root left

-- eight, with n digits of each to come: N i is the number whose root lane i is
pub record Lanes (N : ℕ → ℕ) (n : ℕ) (root rem left : List ℕ) : Type 0 where
  pub roots : length root ≡ 8
  pub rems : length rem ≡ 8
  pub lefts : length left ≡ 8
  pub each : (i : ℕ) → i < 8 → Lane (N i) n (slice_index rem i) (slice_index root i) (slice_index left i)

-- they are those of some numbers
pub record Begun (n : ℕ) (root rem left : List ℕ) : Type 0 where
  pub of : ℕ → ℕ
  pub lanes : Lanes of n root rem left

-- and a digit is to come
pub record Turning (root rem left : List ℕ) : Type 0 where
  pub n : ℕ
  pub more : 0 < n
  pub begun : Begun n root rem left

-- of whichever numbers they are, one digit less is to come
pub record Turned (root rem left root' rem' left' : List ℕ) : Type 0 where
  pub lanes : (N : ℕ → ℕ) (n : ℕ) → 0 < n → Lanes N n root rem left → Lanes N (n - 1) root' rem' left'

-- of whichever numbers they are, r are the roots, and m is what is beyond their squares
pub record Ended (n : ℕ) (root rem left r m : List ℕ) : Type 0 where
  pub is : (N : ℕ → ℕ) → Lanes N n root rem left → (i : ℕ) → i < 8 → slice_index r i ≡ whole_root (N i)
  pub sum : (N : ℕ → ℕ) → Lanes N n root rem left → (i : ℕ) → i < 8 → slice_index m i + slice_index r i * slice_index r i ≡ N i

-- ---- eight distances
-- the digits of a normal float with the bits b, moved up to the top of 32: one place less where the exponent's field is odd
abbrev pub raised_of : ℕ → ℕ
raised_of b = (b % 2 ^ 23 + 2 ^ 23) * 2 ^ 7 * (1 + (b / 2 ^ 23 + 1) % 2)

-- a row of a grid, and the first of eight columns
pub record Inside (x y right bottom : ℕ) : Type 0 where
  pub near : x ≤ 256
  pub wide : 0 < right
  pub not_wider : right ≤ 256
  pub low : y ≤ bottom
  pub high : 0 < bottom
  pub not_higher : bottom ≤ 256

-- what the distance is the root of
abbrev pub sum_of : ℕ → ℕ → ℕ → ℕ → Float
sum_of x y right bottom = add binary32 (mul binary32 (share_of x right) (share_of x right)) (mul binary32 (share_of y bottom) (share_of y bottom))

-- the bits of that, in eight columns from x on, the last column again past the end
abbrev pub sum_bits : ℕ → ℕ → ℕ → ℕ → ℕ → ℕ
sum_bits x y right bottom i = to_bits binary32 (sum_of (min (x + i) right) y right bottom)

-- those bits, and their digits moved up
pub record Squared (x y right bottom : ℕ) (bits up : List ℕ) : Type 0 where
  pub long : length up ≡ 8
  pub low : (i : ℕ) → i < 8 → slice_index bits i ≡ sum_bits x y right bottom i
  pub high : (i : ℕ) → i < 8 → slice_index up i ≡ raised_of (sum_bits x y right bottom i)

-- ---- eight chains
-- number j of each: from 2 ^ 31 up, and less than 2 ^ (31 - j) beyond it
pub record Near (j : ℕ) (l : List ℕ) : Type 0 where
  pub low : (i : ℕ) → i < 8 → 2 ^ 31 ≤ slice_index l i
  pub high : (i : ℕ) → i < 8 → slice_index l i < 2 ^ 31 + 2 ^ (31 - j)

-- r is the whole root of a 64th of 2 ^ 31 times each, and m what is beyond its square
pub record Nearly (l r m : List ℕ) : Type 0 where
  pub few : (i : ℕ) → i < 8 → slice_index r i < 2 ^ 29
  pub less : (i : ℕ) → i < 8 → slice_index m i ≤ 2 * slice_index r i
  pub same : (i : ℕ) → i < 8 → (slice_index m i + slice_index r i * slice_index r i) * 64 ≡ slice_index l i * 2 ^ 31

-- v is a, or a less r where the digit d is 1
pub record Less (v a d r : ℕ) : Type 0 where
  pub none : d ≡ 0 → v ≡ a
  pub one : d ≡ 1 → v ≡ a - r

-- r is the next number of each
pub record Next (l r : List ℕ) : Type 0 where
  pub each : (i : ℕ) → i < 8 → slice_index r i ≡ whole_root (slice_index l i * 2 ^ 31)
