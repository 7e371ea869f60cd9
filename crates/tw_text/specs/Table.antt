-- Rows of cells, laid out as a table. Widths are columns of a terminal.
use Rattle.std.specs.Prelude.{ℕ, max, Bool, cond, List, [], ◌∷◌, ◌++◌, codes, map, String, string_bytes}
use Rattle.std.specs.declared.alloc.Global.{Global}
use Rattle.std.specs.declared.vec.Vec.{Vec}
use Rattle.tw_text.specs.Columns.{columns_of, padded_left, padded_right}
use Rattle.tw_text.specs.declared.table.Column.{Column}

-- the columns of a table: for each its heading, and whether its cells stand at the right
abbrev pub Layout : Type 0
Layout = List (List ℕ × Bool)

-- widths that are at least those of a row's cells
abbrev pub widened : List ℕ → List (List ℕ) → List ℕ
widened [] cells = []
widened (w ∷ ws) [] = w ∷ ws
widened (w ∷ ws) (c ∷ cs) = max w (columns_of c) ∷ widened ws cs

-- the same of rows, one after another
abbrev pub widths_of : List ℕ → List (List (List ℕ)) → List ℕ
widths_of ws [] = ws
widths_of ws (row ∷ rows) = widths_of (widened ws row) rows

-- a cell in a column that is not the last one, and a space behind it
abbrev pub parted : Bool → List ℕ → ℕ → List ℕ
parted is_right cell width = cond is_right (padded_left cell width) (padded_right cell width) ++ codes " "

-- a line: cells, each in its column, parted by one space. The last one is not padded
abbrev pub line : Layout → List ℕ → List (List ℕ) → List ℕ
line [] widths cells = codes "\n"
line (k ∷ ks) [] cells = codes "\n"
line (k ∷ ks) (w ∷ ws) [] = codes "\n"
line (k ∷ ks) (w ∷ ws) (c ∷ []) = c ++ codes "\n"
line (k ∷ ks) (w ∷ ws) (c ∷ d ∷ cs) = parted k.1 c w ++ line ks ws (d ∷ cs)

-- lines, one after another
abbrev pub lines : Layout → List ℕ → List (List (List ℕ)) → List ℕ
lines layout widths [] = []
lines layout widths (row ∷ rows) = line layout widths row ++ lines layout widths rows

abbrev pub headings : Layout → List (List ℕ)
headings layout = map (λ k. k.0) layout

abbrev pub heading_widths : Layout → List ℕ
heading_widths layout = map columns_of (headings layout)

-- a table of headings and rows: a column is as wide as its widest cell or its heading
abbrev pub table : Layout → List (List (List ℕ)) → List ℕ
table layout rows = lines layout (widths_of (heading_widths layout) rows) (headings layout ∷ rows)

-- the columns of a table as they are held
abbrev pub layout_of : List Column → Layout
layout_of columns = map (λ (k : Column). (k.heading.now, k.is_right)) columns

-- the texts of a row of cells as it is held
abbrev pub row_texts : Vec (String Global) Global → List (List ℕ)
row_texts row = map string_bytes row.items
