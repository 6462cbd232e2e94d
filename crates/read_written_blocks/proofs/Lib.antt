-- Laws on the blocks that moves write.
pub mod WrittenBlocks
