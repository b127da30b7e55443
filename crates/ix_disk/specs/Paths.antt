-- Where the disk of the machine keeps a file.
use Rattle.std.specs.Prelude.{ℕ, List, ◌++◌, codes, decimal}
use Rattle.ix_base.specs.declared.files.Area.{Area}
use Rattle.ix_base.specs.declared.files.Area.TheVariants.{Meta, Home, Cold, Frozen, Thawed}
use Rattle.ix_base.specs.declared.files.File.{File}

-- the folder of an area's files
abbrev pub folder_path : Area → List ℕ
folder_path Meta = codes "var/meta"
folder_path Home = codes "var/home"
folder_path Cold = codes "var/cold"
folder_path Frozen = codes "var/frozen"
folder_path Thawed = codes "var/thawed"

abbrev pub file_path : File → List ℕ
file_path file = folder_path file.area ++ codes "/" ++ decimal file.number
