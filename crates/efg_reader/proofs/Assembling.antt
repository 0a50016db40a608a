-- One node more: the last that is listed goes before those that have their kids.
use Rattle.std.proofs.Common.{◌≡◌, ℕ, ◌+◌, ◌<◌, ◌≤◌, get_or, List, [], ◌∷◌, ◌++◌, length, take, drop, reverse, ap, sym, ◌∙◌, arith}
use Rattle.std.proofs.lemmas.List.{length_push, length-drop, reverse-append, drop_more, drop_all, take_more, take_all, nil_from_length}
use Rattle.efg_reader.specs.declared.events.Bare.{Bare}
use Rattle.efg_reader.specs.declared.raw_game.RawNode.{RawNode}
use Rattle.efg_reader.specs.Assembly.{assembled, node_with}

reverse_push : {A : Type 0} (xs : List A) (x : A) → reverse (xs ++ x ∷ []) ≡ x ∷ reverse xs
reverse_push xs x = reverse-append xs (x ∷ [])

pub nodes_more : (bares old_bares : List Bare) (bare : Bare) (rest : List Bare) (nodes new_nodes : List RawNode) (roots kids : List ℕ)
    → old_bares ≡ bares ++ bare ∷ [] → reverse nodes ≡ (assembled (length old_bares) rest).0 → reverse roots ≡ (assembled (length old_bares) rest).1
    → kids ≡ take bare.kids (reverse roots) → new_nodes ≡ nodes ++ node_with bare kids ∷ []
    → reverse new_nodes ≡ (assembled (length bares) (bare ∷ rest)).0
unfolding assembled
nodes_more bares old_bares bare rest nodes new_nodes roots kids pop are stand taken push =
    let more : length old_bares ≡ length bares + 1 = ap length pop ∙ length_push bares bare in
    let first = ap (λ (xs : List RawNode). reverse xs) push ∙ reverse_push nodes (node_with bare kids) in
    let behind : kids ≡ take bare.kids (assembled (length bares + 1) rest).1 = rw (← more) (taken ∙ ap (take bare.kids) stand) in
    let others : reverse nodes ≡ (assembled (length bares + 1) rest).0 = rw (← more) are in
    first ∙ ap (λ (xs : List RawNode). node_with bare kids ∷ xs) others ∙ ap (λ (ks : List ℕ). node_with bare ks ∷ (assembled (length bares + 1) rest).0) behind

pub roots_more : (bares old_bares : List Bare) (bare : Bare) (rest : List Bare) (roots mid new_roots : List ℕ) (at : ℕ)
    → old_bares ≡ bares ++ bare ∷ [] → reverse roots ≡ (assembled (length old_bares) rest).1
    → reverse mid ≡ drop bare.kids (reverse roots) → new_roots ≡ mid ++ at ∷ [] → at ≡ length bares
    → reverse new_roots ≡ (assembled (length bares) (bare ∷ rest)).1
unfolding assembled
roots_more bares old_bares bare rest roots mid new_roots at pop stand left push number =
    let more : length old_bares ≡ length bares + 1 = ap length pop ∙ length_push bares bare in
    let first = ap (λ (xs : List ℕ). reverse xs) push ∙ reverse_push mid at in
    let others : reverse mid ≡ drop bare.kids (assembled (length bares + 1) rest).1 = rw (← more) (left ∙ ap (drop bare.kids) stand) in
    first ∙ ap (λ (xs : List ℕ). at ∷ xs) others ∙ ap (λ (n : ℕ). n ∷ drop bare.kids (assembled (length bares + 1) rest).1) number

-- one subtree more is taken from the top
pub kid_taken : (all : List ℕ) (i : ℕ) (roots left : List ℕ) (kid : ℕ) (kids new_kids : List ℕ)
    → roots ≡ left ++ kid ∷ [] → reverse roots ≡ drop i all → kids ≡ take i all → new_kids ≡ kids ++ kid ∷ []
    → (new_kids ≡ take (i + 1) all) × (reverse left ≡ drop (i + 1) all)
kid_taken all i roots left kid kids new_kids pop stand taken push =
    let top : kid ∷ reverse left ≡ drop i all = sym (reverse_push left kid) ∙ sym (ap (λ (xs : List ℕ). reverse xs) pop) ∙ stand in
    let some : i < length all = omega (arith, ap (λ (xs : List ℕ). length xs) top, length-drop i all) in
    let next = drop_more all i 0 some in
    let same : kid ∷ reverse left ≡ get_or all i 0 ∷ drop (i + 1) all = top ∙ next in
    let is_kid : kid ≡ get_or all i 0 = cc (same) in
    (push ∙ ap (λ (xs : List ℕ). xs ++ kid ∷ []) taken ∙ ap (λ (k : ℕ). take i all ++ k ∷ []) is_kid ∙ sym (take_more all i 0 some), cc (same))

-- no subtree is left
pub none_left : (all : List ℕ) (i : ℕ) (roots left : List ℕ) (kids : List ℕ)
    → roots ≡ left ++ [] → length left ≡ 0 → reverse roots ≡ drop i all → kids ≡ take i all
    → (kids ≡ take (i + 1) all) × (reverse left ≡ drop (i + 1) all)
none_left all i roots left kids pop empty stand taken =
    let nothing : left ≡ [] = nil_from_length left empty in
    let gone : roots ≡ [] = pop ∙ ap (λ (xs : List ℕ). xs ++ []) nothing in
    let over : length all ≤ i = omega (arith, ap (λ (xs : List ℕ). length xs) stand, length-drop i all, ap (λ (xs : List ℕ). length (reverse xs)) gone) in
    (taken ∙ take_all i all over ∙ sym (take_all (i + 1) all (omega arith)), ap (λ (xs : List ℕ). reverse xs) nothing ∙ sym (drop_all (i + 1) all (omega arith)))
