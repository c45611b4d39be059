-- How many items have been read of those that a number tells.
use Rattle.std.proofs.Common.{◌≡◌, ℕ, ◌<◌, ◌≤◌, ◌^◌, arith}

-- not all have been read
pub more-left : {l i n : ℕ} → l ≡ i → i < n → l < n
more-left e h = omega (arith, e, h)

-- all have been read
pub all-read : {l i n : ℕ} → l ≡ i → i ≤ n → n ≤ i → l ≡ n
all-read e p q = omega (arith, e, p, q)

-- so they are as many as the number
pub at-least : {l n m : ℕ} → l ≡ n → m ≤ n → m ≤ l
at-least e p = omega (arith, e, p)

pub at-most : {l n m : ℕ} → l ≡ n → n ≤ m → l ≤ m
at-most e p = omega (arith, e, p)

-- a number fits four bytes
pub any-fits : {n : ℕ} → n ≤ 0xFFFFFFFF → n < 2 ^ 32
any-fits p = omega (arith, p)

pub few-fit : {n : ℕ} → n ≤ 16 → n < 2 ^ 32
few-fit p = omega (arith, p)

pub eight-fit : {n : ℕ} → n ≤ 8 → n < 2 ^ 32
eight-fit p = omega (arith, p)

pub nine-fit : {n : ℕ} → n ≤ 9 → n < 2 ^ 32
nine-fit p = omega (arith, p)
