-- The lists of a starting tableau are told by their entries.
use Rattle.std.proofs.Common.{◌≡◌, ◌↔◌, ℕ, ◌+◌, ◌<◌, All, List, [], length, ℤ, pos, slice_index_or, sym, subst, ◌∙◌, arith}
use Rattle.std.proofs.lemmas.List.{get_or_default, same_lists}
use Rattle.std.proofs.lemmas.List.Elements.{All-from_get_or, All-get_or}
use Rattle.corr_num.specs.Narrow.{Narrow}
use Rattle.lp_form.specs.Program.{LpView, right_of}
use Rattle.int_tableau.specs.Elimination.{at}
use Rattle.int_tableau.specs.Start.{IsNarrowRow}
use Rattle.int_tableau.specs.StartLists.{AreStartRows, IsStartBasis, IsStartRow}
use Rattle.bland_simplex.proofs.StartEntries.{entry_own, entry_right}

-- Lists of one length with equal elements are equal.
alike : {X : Type 0} (e : X) (xs ys : List X) → length xs ≡ length ys
    → ((k : ℕ) → k < length xs → slice_index_or xs k e ≡ slice_index_or ys k e) → xs ≡ ys
alike e xs ys same each = same_lists xs ys same
    (λ k d h. get_or_default xs k d e h ∙ (each k h ∙ get_or_default ys k e d (omega (arith, same))))

pub one_row_list : (lp : LpView) (row : ℕ) (one other : List ℤ) → IsStartRow lp row one → IsStartRow lp row other → one ≡ other
one_row_list lp row one other a b = alike (pos 0) one other (a.width ∙ sym b.width)
    (λ k h. a.entries_are k h ∙ sym (b.entries_are k (omega (arith, a.width, b.width))))

pub one_rows : (lp : LpView) (one other : List (List ℤ)) → AreStartRows lp one → AreStartRows lp other → one ≡ other
one_rows lp one other a b = alike [] one other (a.all ∙ sym b.all)
    (λ k h. one_row_list lp k (slice_index_or one k []) (slice_index_or other k []) (a.each k h) (b.each k (omega (arith, a.all, b.all))))

pub one_basis : (lp : LpView) (one other : List ℕ) → IsStartBasis lp one → IsStartBasis lp other → one ≡ other
one_basis lp one other a b = alike 0 one other (a.one_each ∙ sym b.one_each)
    (λ k h. a.artificial k h ∙ sym (b.artificial k (omega (arith, a.one_each, b.one_each))))

pub own_is_one : (lp : LpView) (row : ℕ) (entries : List ℤ) → row < length lp.rows → IsStartRow lp row entries
    → at entries (lp.cols + row) ≡ pos 1
own_is_one lp row entries h is = is.entries_are (lp.cols + row) (omega (arith, is.width)) ∙ entry_own lp row h

pub right_is_last : (lp : LpView) (row : ℕ) (entries : List ℤ) → row < length lp.rows → IsStartRow lp row entries
    → at entries (lp.cols + length lp.rows) ≡ right_of lp row
right_is_last lp row entries h is = is.entries_are (lp.cols + length lp.rows) (omega (arith, is.width)) ∙ entry_right lp row h

pub narrow_as_row : (lp : LpView) (row : ℕ) (entries : List ℤ) → IsStartRow lp row entries → All Narrow entries ↔ IsNarrowRow lp row
narrow_as_row lp row entries is = (
  λ narrow col h. subst Narrow (is.entries_are col (omega (arith, is.width)))
      (All-get_or Narrow entries col (pos 0) (omega (arith, is.width)) narrow),
  λ narrow. All-from_get_or Narrow entries (pos 0) (λ k l. subst Narrow (sym (is.entries_are k l)) (narrow k (omega (arith, is.width)))),
)
