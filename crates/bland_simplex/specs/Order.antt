-- The fixed order of the columns, and what the rule of smallest subscripts takes in it (Bland 1977).
use Rattle.std.specs.Prelude.{◌≡◌, ◌⊎◌, ℕ, ◌-◌, ◌<◌, ◌≤◌, cond, nat_lt, Option, MatchOption, pos, ◌*ℤ◌, ◌<ℤ◌}
use Rattle.exact_linear.specs.Simplex.{IsLeastRatio}
use Rattle.int_tableau.specs.Content.{Content}

-- a column's place: first the program's columns from the last to the first, then those behind them
abbrev pub rank : ℕ → ℕ → ℕ
rank cols col = cond (nat_lt col cols) (cols - 1 - col) col

-- no column of so many may enter
abbrev pub AreNone : ℕ → (ℕ → Type 0) → Type 0
AreNone offered May = (col : ℕ) → col < offered → May col → ⊥

-- of so many columns the first one that may enter
pub record IsFirst (cols offered : ℕ) (May : ℕ → Type 0) (col : ℕ) : Type 0 where
  pub offered_is : col < offered
  pub may : May col
  pub before : (other : ℕ) → other < offered → rank cols other < rank cols col → May other → ⊥

-- the first one of so many columns that may enter, or none where none may
abbrev pub FindsFirst : ℕ → ℕ → (ℕ → Type 0) → Option ℕ → Type 0
FindsFirst cols offered May found = MatchOption found (AreNone offered May) (IsFirst cols offered May)

-- a row has a smaller ratio of right side and entry in the entering column than another, or the same ratio and the basic column
-- that comes first
abbrev pub LeavesBefore : ℕ → ℕ → Content → ℕ → ℕ → ℕ → Type 0
LeavesBefore cols side t col row other =
    ((t.entry row side *ℤ t.entry other col) <ℤ (t.entry other side *ℤ t.entry row col))
    ⊎ ((t.entry row side *ℤ t.entry other col ≡ t.entry other side *ℤ t.entry row col)
    × (rank cols (t.basic row) < rank cols (t.basic other)))

-- of the first so many rows the one that leaves: of least ratio, and of those the one whose basic column comes first
pub record IsLeaving (count cols side : ℕ) (t : Content) (col row : ℕ) : Type 0 where
  pub ratio : IsLeastRatio count side t.entry row col
  pub first : (i : ℕ) → i < count → pos 0 <ℤ t.entry i col →
      t.entry i side *ℤ t.entry row col ≡ t.entry row side *ℤ t.entry i col → rank cols (t.basic row) ≤ rank cols (t.basic i)
