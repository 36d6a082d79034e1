-- All definitions opened at once, for what is shown by computing.
use Rattle.model.specs.Number.{difference, distance_of_field}
use Rattle.model.specs.Entry.{cut_field, super_key, cmp, distance}
use Rattle.model.specs.Rebuild.{rebuild, listing}
use Rattle.model.specs.Add.{mend, insert}
use Rattle.model.specs.Strike.{heir, strike, freed}
use Rattle.model.specs.Ask.{slot_of, reads, holds, in_box, closer, nearest, tallest}
use Rattle.model.specs.Book.{up_from, fresh, added, struck, cell_in, behind, cell, links, keys, head_of}
use Rattle.model.specs.Pool.{tree_from, chain_from, book_of, fitting, sound, walk}
use Rattle.model.specs.Text.{text_of, entry_of_line, title_of_line, parse}
use Rattle.model.specs.Answer.{checked}
use Rattle.model.specs.Calls.{start, add, strike_out, look_up, count, list, near, save, take_in}
use Rattle.model.specs.Tray.{works, trayed, tray}
use Rattle.model.specs.Show.{program}
use Rattle.model.specs.Runs.{perform}

unfoldable pub opened : Unit {0}
unfolding difference distance_of_field cut_field super_key cmp distance rebuild listing mend insert heir strike freed slot_of reads holds in_box closer nearest tallest up_from fresh added struck cell_in behind cell links keys head_of tree_from chain_from book_of fitting sound walk text_of entry_of_line title_of_line parse checked start add strike_out look_up count list near save take_in works trayed tray program perform
opened = tt
