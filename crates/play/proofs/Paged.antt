-- One line more on a page.
use Rattle.std.proofs.Common.{◌≡◌, ℕ, ◌+◌, ◌<◌, ◌≤◌, false, List, [], ◌∷◌, ◌++◌, map, length, get_or, take, drop, sym, refl, ap, ◌∙◌, subst, append_assoc, append-nil, arith, length-append, length-drop}
use Rattle.std.proofs.lemmas.List.{drop_at, drop-drop, flat_map_more, map_more, take_at}
use Rattle.book.specs.Orders.{no_row}
use Rattle.book.specs.declared.row.Row.{Row as BookRow}
use Rattle.play.specs.Lines.{text_of, texts_of}
use Rattle.std.specs.Borrow.{MutBor}
use Rattle.play.specs.Pages.{Printed, Shown, Wrote, is_cut}
use Rattle.play.specs.declared.line.Line.{Line}
use Rattle.play.specs.declared.line.Line.TheVariants.{Row}
use Rattle.play.specs.declared.page.Page.{Page}

-- the output keeps its length
pub same_length : (was : List ℕ) (lines : List Line) (out : List ℕ) (shown cut : List Line) → Shown was lines out shown cut → length out ≡ length was
same_length was lines out shown cut s =
    let t = texts_of shown in
    ap length s.bytes ∙ length-append t (drop (length t) was) ∙ omega (arith, length-drop (length t) was, s.fits)

-- a line is shown
shown_more : (was : List ℕ) (earlier : List Line) (out : List ℕ) (shown cut : List Line) (l : Line) → Shown was earlier out shown cut → is_cut cut ≡ false → length (texts_of shown) + length (text_of l) ≤ length was → Shown was (earlier ++ l ∷ []) (take (length (texts_of shown)) out ++ (text_of l ++ drop (length (text_of l)) (drop (length (texts_of shown)) out))) (shown ++ l ∷ []) []
shown_more was earlier out shown (x ∷ xs) l s none room = cc
shown_more was earlier out shown [] l s none room =
    let t = texts_of shown in
    let n = length t in
    let more : t ++ text_of l ≡ texts_of (shown ++ l ∷ []) = flat_map_more text_of [] shown l in
    let size : n + length (text_of l) ≡ length (texts_of (shown ++ l ∷ [])) = sym (length-append t (text_of l)) ∙ ap length more in
    let rest : drop n out ≡ drop n was = ap (drop n) s.bytes ∙ drop_at t (drop n was) n refl in
    record {
      split = ap (λ y. y ++ l ∷ []) (s.split ∙ append-nil shown) ∙ sym (append-nil (shown ++ l ∷ []));
      fits = omega (arith, size);
      stops = tt;
      bytes =
          ap (λ x. x ++ (text_of l ++ drop (length (text_of l)) (drop n out))) (ap (take n) s.bytes ∙ take_at t (drop n was) n refl)
          ∙ ap (λ x. t ++ (text_of l ++ drop (length (text_of l)) x)) rest
          ∙ ap (λ x. t ++ (text_of l ++ x)) (drop-drop (length (text_of l)) n was)
          ∙ sym (append_assoc t (text_of l) (drop (n + length (text_of l)) was))
          ∙ ap (λ x. x ++ drop (n + length (text_of l)) was) more
          ∙ ap (λ x. texts_of (shown ++ l ∷ []) ++ drop x was) size;
    }

pub page_more : (lent : MutBor (List ℕ)) (earlier : List Line) (p q : Page) (l : Line) (text : List ℕ) (size : ℕ) → text ≡ text_of l → size ≡ length text → q.used ≡ p.used + size → q.full ≡ p.full → p.full ≡ false → p.used + size ≤ length p.out.now → q.out.ghost_name ≡ p.out.ghost_name → q.out.now ≡ take p.used p.out.now ++ (text ++ drop size (drop p.used p.out.now)) → Printed lent earlier p → Printed lent (earlier ++ l ∷ []) q
page_more lent earlier p q l text size is sized used full roomy room same bytes pg =
    let out = p.out.now in
    let front = length (texts_of pg.shown) in
    let long = same_length lent.now earlier out pg.shown pg.cut pg.shows in
    let whole : size ≡ length (text_of l) = sized ∙ ap length is in
    let s = shown_more lent.now earlier out pg.shown pg.cut l pg.shows (sym pg.full ∙ roomy) (omega (arith, long, whole, pg.used)) in
    let after : q.out.now ≡ take front out ++ (text_of l ++ drop (length (text_of l)) (drop front out)) =
    bytes
    ∙ ap (λ n. take n out ++ (text ++ drop size (drop n out))) pg.used
    ∙ ap (λ n. take front out ++ (text ++ drop n (drop front out))) whole
    ∙ ap (λ x. take front out ++ (x ++ drop (length (text_of l)) (drop front out))) is in
    record {
      lender = same ∙ pg.lender;
      shown = pg.shown ++ l ∷ [];
      cut = [];
      shows = subst (λ (x : List ℕ). Shown lent.now (earlier ++ l ∷ []) x (pg.shown ++ l ∷ []) []) (sym after) s;
      used = used ∙ ap (λ n. n + size) pg.used ∙ ap (λ n. front + n) whole ∙ sym (length-append (texts_of pg.shown) (text_of l)) ∙ ap length (flat_map_more text_of [] pg.shown l);
      full = full ∙ roomy;
    }

-- nothing printed, and lines after lines
pub wrote_none : (p : Page) → Wrote [] p p
wrote_none p lent earlier pg = subst (λ (x : List Line). Printed lent x p) (sym (append-nil earlier)) pg

pub wrote_both : (a b : List Line) (p q r : Page) → Wrote a p q → Wrote b q r → Wrote (a ++ b) p r
wrote_both a b p q r f g lent earlier pg = subst (λ (l : List Line). Printed lent l r) (append_assoc earlier a b) (g lent (earlier ++ a) (f lent earlier pg))

-- one row more
pub wrote_row : (rows : List BookRow) (i : ℕ) (p q r : Page) → i < length rows → Wrote (map Row (take i rows)) p q → Wrote (Row (get_or rows i no_row) ∷ []) q r → Wrote (map Row (take (i + 1) rows)) p r
wrote_row rows i p q r within f g =
    subst (λ (l : List Line). Wrote l p r) (sym (map_more Row rows i no_row within)) (wrote_both (map Row (take i rows)) (Row (get_or rows i no_row) ∷ []) p q r f g)
